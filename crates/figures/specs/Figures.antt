-- The figures of an image that was built: what the program prints of it.
use Rattle.std.specs.Prelude.{◌≡◌, ℕ}
use Rattle.paper.specs.Image.{depth, entries, worst}
use Rattle.paper.specs.Operations.{result, Built}
use Rattle.paper.specs.Programs.{defaults_in_of}

-- The numbers are those of an image built or refused, read out of the image.
pub record Shows (o : Built) (number deep far stored defaults bytes : ℕ) : Type 0 where
  pub number_is : number ≡ o.number
  pub deep_is : deep ≡ depth (result o)
  pub far_is : far ≡ worst (result o)
  pub stored_is : stored ≡ entries (result o)
  pub defaults_are : defaults ≡ defaults_in_of (result o)
  pub bytes_are : bytes ≡ o.result_length
