-- The elements of a slice of bytes are bytes.
use Rattle.std.proofs.Common.{ℕ, List, arith, w8, Fits}
use Rattle.paper.specs.Words.{byte_at, Bytes}

-- A list whose elements fit in 8 bits, as those of a lent slice are known to do, is one of bytes.
pub fits_bytes : (b : List ℕ) → ((i : ℕ) → Fits w8 (byte_at b i)) → Bytes b
fits_bytes b known i = omega (arith, known i)
