-- What the number of an answer tells: no refusal has the number 0, so a refusal with the number of a ground says that the ground applies, and the number 0 that it does not.
use Rattle.std.proofs.Common.{◌≡◌, ℕ, Bool, true, false, cond, refl, sym, arith}
use Rattle.answers.specs.Numbers.{number_of}
use Rattle.answers.specs.declared.Refusal.{Refusal}
use Rattle.answers.specs.declared.Refusal.TheVariants.{TooShort, Counts, Length, Trailer, CheckWord, StartState, Classes, Defaults, EntryClasses, NextStates, Endless, Needless, Costs, State, Payload, Room, Order, Labels, Edition, ManyLabels, PatchShape, OtherImage, ListedStates, FewShared, ListShape, ListLabels, ManyStates}

-- No refusal has the number 0.
pub not_zero : (e : Refusal) → ¬ (number_of e ≡ 0)
not_zero TooShort h = absurd (omega arith)
not_zero Counts h = absurd (omega arith)
not_zero Length h = absurd (omega arith)
not_zero Trailer h = absurd (omega arith)
not_zero CheckWord h = absurd (omega arith)
not_zero StartState h = absurd (omega arith)
not_zero Classes h = absurd (omega arith)
not_zero Defaults h = absurd (omega arith)
not_zero EntryClasses h = absurd (omega arith)
not_zero NextStates h = absurd (omega arith)
not_zero Endless h = absurd (omega arith)
not_zero Needless h = absurd (omega arith)
not_zero Costs h = absurd (omega arith)
not_zero State h = absurd (omega arith)
not_zero Payload h = absurd (omega arith)
not_zero Room h = absurd (omega arith)
not_zero Order h = absurd (omega arith)
not_zero Labels h = absurd (omega arith)
not_zero Edition h = absurd (omega arith)
not_zero ManyLabels h = absurd (omega arith)
not_zero PatchShape h = absurd (omega arith)
not_zero OtherImage h = absurd (omega arith)
not_zero ListedStates h = absurd (omega arith)
not_zero FewShared h = absurd (omega arith)
not_zero ListShape h = absurd (omega arith)
not_zero ListLabels h = absurd (omega arith)
not_zero ManyStates h = absurd (omega arith)

-- A refusal with the number of a single ground says that the ground applies.
pub told_applies : (e : Refusal) (b : Bool) (r : ℕ) → number_of e ≡ cond b r 0 → b ≡ true
told_applies e true r h = refl
told_applies e false r h = absurd (not_zero e h)

-- And then the number is the ground's.
pub told_number : (e : Refusal) (b : Bool) (r : ℕ) → number_of e ≡ cond b r 0 → number_of e ≡ r
told_number e true r h = h
told_number e false r h = absurd (not_zero e h)

-- The number 0 says that it does not.
pub told_passed : (b : Bool) (r : ℕ) → ¬ (r ≡ 0) → 0 ≡ cond b r 0 → b ≡ false
told_passed true r n h = absurd (n (sym h))
told_passed false r n h = refl
