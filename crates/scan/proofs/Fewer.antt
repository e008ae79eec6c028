-- Two images that go to the same states: where no state and byte cost more hops in the one, no scan does.
use mathlib.Core.Path.{◌≡◌, sym, ap, ◌∙◌}
use mathlib.Core.List.{List, [], ◌∷◌}
use Prim.Native.Nat.{ℕ, suc, ◌≤◌, ◌<◌}
use native.Mathlib.Omega.{arith}
use lib.ListN.{length, take}
use Rattle.paper.specs.Words.{Bytes}
use Rattle.paper.specs.View.{look}
use Rattle.paper.specs.Image.{states, class_of, image_view}
use Rattle.paper.specs.Scan.{scan_of}
use Rattle.paper.specs.Operations.{Scanned, scan}
use Rattle.facts.proofs.ImageFacts.{AcceptedImage}
use Rattle.running.proofs.Walk.{cost_after}
use Rattle.running.proofs.Bytewise.{cost}
use Rattle.scan.proofs.OneByte.{goes, byte_reached}
use Rattle.scan.proofs.Verdict.{scan_accepts}
use Rattle.scan.proofs.Follows.{bytes_take}
use Rattle.scan.proofs.Hops.{scan_cost}

-- The hops that a byte costs in an image at a state.
abbrev pub cost_in : List ℕ → ℕ → ℕ → ℕ
cost_in b = cost (look (image_view b)) (class_of b)

module _ (b b' : List ℕ) (A : AcceptedImage b) (same : (s x : ℕ) → s < states b → x < 256 → goes b' s x ≡ goes b s x)
    (fewer : (s x : ℕ) → s < states b → x < 256 → cost_in b' s x ≤ cost_in b s x) where
  -- A walk over bytes costs no more.
  walk_fewer : (xs : List ℕ) → Bytes xs → (s : ℕ) → s < states b → cost_after (goes b') (cost_in b') s xs ≤ cost_after (goes b) (cost_in b) s xs
  walk_fewer [] B s h = omega arith
  walk_fewer (x ∷ xs) B s h =
      let rest = walk_fewer xs (λ i. B (suc i)) (goes b s x) (byte_reached b A s x h (B 0)).inside in
      omega (arith, fewer s x h (B 0), rest, ap (λ (q : ℕ). cost_after (goes b') (cost_in b') q xs) (same s x h (B 0)))

  -- A scan that takes as many bytes costs no more.
  pub scan_fewer : (s : ℕ) (payload room : List ℕ) → Bytes payload → (scan b s payload room).number ≡ 0 → (scan b' s payload room).number ≡ 0
      → (scan b' s payload room).taken ≡ (scan b s payload room).taken → (scan b' s payload room).hops ≤ (scan b s payload room).hops
  scan_fewer s payload room P e e' t =
      let known = scan_accepts b s payload room e in
      let known' = scan_accepts b' s payload room e' in
      let n = (scan_of b s payload (length room)).taken in
      let taken : (scan_of b' s payload (length room)).taken ≡ n = sym (ap (λ (o : Scanned). o.taken) known'.scanned) ∙ t ∙ ap (λ (o : Scanned). o.taken) known.scanned in
      omega (
        arith,
        ap (λ (o : Scanned). o.hops) known.scanned,
        ap (λ (o : Scanned). o.hops) known'.scanned,
        scan_cost b s payload room P e,
        scan_cost b' s payload room P e',
        ap (λ (i : ℕ). cost_after (goes b') (cost_in b') s (take i payload)) taken,
        walk_fewer (take n payload) (bytes_take n payload P) s known.inside,
      )
