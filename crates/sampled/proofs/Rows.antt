-- The sampled rows are right, by computation, a statement for each file since one may take so many steps only. With its value named `refl` computes each test once.
use mathlib.Core.Path.{◌≡◌, refl}
use mathlib.Core.Bool.{true}
use Rattle.sampled.specs.Row.{agrees, right}
use Rattle.sampled.specs.Sample1 as sample1
use Rattle.sampled.specs.Sample2 as sample2
use Rattle.sampled.specs.Sample3 as sample3
use Rattle.sampled.specs.Sample4 as sample4
use Rattle.sampled.specs.Sample5 as sample5
use Rattle.sampled.specs.Sample6 as sample6
use Rattle.sampled.specs.Sample7 as sample7
use Rattle.sampled.specs.Sample8 as sample8
use Rattle.sampled.specs.Sample9 as sample9
use Rattle.sampled.specs.Sample10 as sample10
use Rattle.sampled.specs.Sample11 as sample11
use Rattle.sampled.specs.Sample12 as sample12
use Rattle.sampled.specs.Sample13 as sample13
use Rattle.sampled.specs.Sample14 as sample14
use Rattle.sampled.specs.Sample15 as sample15
use Rattle.sampled.specs.Sample16 as sample16
use Rattle.sampled.specs.Sample17 as sample17
use Rattle.sampled.specs.Sample18 as sample18
use Rattle.sampled.specs.Sample19 as sample19

-- The rows of Sample1 are right.
pub sample1_right : right sample1.rows ≡ true
unfolding agrees
sample1_right = refl {a = true}

-- The rows of Sample2 are right.
pub sample2_right : right sample2.rows ≡ true
unfolding agrees
sample2_right = refl {a = true}

-- The rows of Sample3 are right.
pub sample3_right : right sample3.rows ≡ true
unfolding agrees
sample3_right = refl {a = true}

-- The rows of Sample4 are right.
pub sample4_right : right sample4.rows ≡ true
unfolding agrees
sample4_right = refl {a = true}

-- The rows of Sample5 are right.
pub sample5_right : right sample5.rows ≡ true
unfolding agrees
sample5_right = refl {a = true}

-- The rows of Sample6 are right.
pub sample6_right : right sample6.rows ≡ true
unfolding agrees
sample6_right = refl {a = true}

-- The rows of Sample7 are right.
pub sample7_right : right sample7.rows ≡ true
unfolding agrees
sample7_right = refl {a = true}

-- The rows of Sample8 are right.
pub sample8_right : right sample8.rows ≡ true
unfolding agrees
sample8_right = refl {a = true}

-- The rows of Sample9 are right.
pub sample9_right : right sample9.rows ≡ true
unfolding agrees
sample9_right = refl {a = true}

-- The rows of Sample10 are right.
pub sample10_right : right sample10.rows ≡ true
unfolding agrees
sample10_right = refl {a = true}

-- The rows of Sample11 are right.
pub sample11_right : right sample11.rows ≡ true
unfolding agrees
sample11_right = refl {a = true}

-- The rows of Sample12 are right.
pub sample12_right : right sample12.rows ≡ true
unfolding agrees
sample12_right = refl {a = true}

-- The rows of Sample13 are right.
pub sample13_right : right sample13.rows ≡ true
unfolding agrees
sample13_right = refl {a = true}

-- The rows of Sample14 are right.
pub sample14_right : right sample14.rows ≡ true
unfolding agrees
sample14_right = refl {a = true}

-- The rows of Sample15 are right.
pub sample15_right : right sample15.rows ≡ true
unfolding agrees
sample15_right = refl {a = true}

-- The rows of Sample16 are right: the orders 1 and 2.
pub sample16_right : right sample16.rows ≡ true
unfolding agrees
sample16_right = refl {a = true}

-- The rows of Sample17 are right: the orders 1 and 2.
pub sample17_right : right sample17.rows ≡ true
unfolding agrees
sample17_right = refl {a = true}

-- The rows of Sample18 are right: edition 2.
pub sample18_right : right sample18.rows ≡ true
unfolding agrees
sample18_right = refl {a = true}

-- The rows of Sample19 are right: edition 2.
pub sample19_right : right sample19.rows ≡ true
unfolding agrees
sample19_right = refl {a = true}
