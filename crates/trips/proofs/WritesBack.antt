-- Write undoes expand: of the table that expand leaves, with the image's defaults, it gives the image, byte for byte; but of an image with a default not worth its hops it refuses them with 25.
use mathlib.Core.Path.{◌≡◌, sym, ap, ◌∙◌}
use mathlib.Core.List.{List}
use Prim.Native.Nat.{ℕ, ◌*◌, ◌≤◌, ◌<◌}
use native.Mathlib.Nat.{zero-add}
use native.Mathlib.Omega.{arith}
use lib.ListN.{length, take}
use Rattle.paper.specs.Words.{number16, Bytes}
use Rattle.paper.specs.Refusals.{first}
use Rattle.paper.specs.Table as table
use Rattle.paper.specs.Image as image
use Rattle.paper.specs.Image.{default_from_of}
use Rattle.paper.specs.Results.{default_number_of, table_of, default_bytes}
use Rattle.paper.specs.Rewrite.{not_worth, AllWorth}
use Rattle.paper.specs.Operations.{Built, result, building, listed, write, expand_grounds, expand, judge_image_of}
use Rattle.paper.specs.Promises.{IsBuilt, Writes, Expands}
use Rattle.facts.proofs.ImageFacts.{accepted_image}
use Rattle.trips.proofs.Spans.{spans_all}
use Rattle.trips.proofs.Numbers.{length-words, read_words}
use Rattle.trips.proofs.Labels.{default-back}
use Rattle.trips.proofs.Writable.{Writable}
use Rattle.trips.proofs.TableOf.{table_reads, table_of_writable, image_of_defaults}
use Rattle.trips.proofs.Building.{built-result, result_promised}
use Rattle.trips.proofs.Accepts.{expand_judged, write_accepts, write_refuses}

-- The list holds the defaults of an image.
pub record HoldsDefaults (b ds : List ℕ) : Type 0 where
  pub long : length ds ≡ 2 * image.states b
  pub each_is : (s : ℕ) → s < image.states b → listed ds s ≡ image.default b s

-- The list of an accepted image's own defaults holds them.
pub own-defaults : (b : List ℕ) → judge_image_of b ≡ 0 → HoldsDefaults b (default_bytes b)
unfolding default_bytes
own-defaults b e =
    let A = accepted_image b e in
    let n = image.states b in
    let f : ℕ → ℕ = λ s. default_number_of (image.default b s) in
    record {
      long = length-words n f;
      each_is = λ s hs.
          let (small, back) = default-back (image.default b s) (λ d q. omega (arith, A.right.inside s d hs q, A.few_states)) in
          ap (λ (x : ℕ). default_from_of (number16 (default_bytes b) x)) (sym (zero-add (2 * s))) ∙ ap default_from_of (read_words n f (spans_all (default_bytes b)) s hs small) ∙ back;
    }

-- Write of an accepted image's table with its defaults.
module _ (b ds room : List ℕ) (B : Bytes b) (e : judge_image_of b ≡ 0) (D : HoldsDefaults b ds) where
  -- The table can be written, and the list is as long as it asks.
  can : Writable (table_of b) (listed ds)
  can = table_of_writable b B e (listed ds) D.each_is

  long : length ds ≡ 2 * table.states (table_of b)
  long = omega (arith, D.long, (table_reads b B e).states_is)

  -- It gives the image where every default is worth its hops.
  pub write_table_lem : AllWorth b → length b ≤ length room → write (table_of b) ds room ≡ building 0 b room
  write_table_lem worth h =
      let i = image_of_defaults b B e (listed ds) D.each_is in
      write_accepts (table_of b) ds can long room
      (λ s hs. let hb : s < image.states b = omega (arith, (table_reads b B e).states_is) in ap (not_worth (table_of b) s) (D.each_is s hb) ∙ worth s hb) (rw i h)
      ∙ ap (λ (x : List ℕ). building 0 x room) i

  -- Where one is not it refuses with 25.
  pub write_table_weak : ¬ AllWorth b → (write (table_of b) ds room).number ≡ 25
  write_table_weak weak =
      ap (λ (o : Built). o.number)
      (write_refuses (table_of b) ds can long room
      (λ worth. weak (λ s hs. ap (not_worth (table_of b) s) (sym (D.each_is s hs)) ∙ worth s (omega (arith, (table_reads b B e).states_is)))))

-- What expand accepts is an accepted image, and leaves its table.
pub expand_leaves : (b room : List ℕ) → (expand b room).number ≡ 0 → (judge_image_of b ≡ 0) × (result (expand b room) ≡ table_of b)
unfolding expand
expand_leaves b room e =
    let (z, w) = built-result (first (expand_grounds b (length room))) (table_of b) room e in
    (expand_judged b (length room) z, w)

-- Write of what expand leaves, with the image's defaults, gives the image.
pub write-expand : (b ds room room' : List ℕ) → Bytes b → HoldsDefaults b ds → (expand b room).number ≡ 0 → AllWorth b → length b ≤ length room'
    → write (result (expand b room)) ds room' ≡ building 0 b room'
write-expand b ds room room' B D e worth h =
    let (judged, w) = expand_leaves b room e in
    ap (λ (t : List ℕ). write t ds room') w ∙ write_table_lem b ds room' B judged D worth h

-- So with the list of the defaults that the image itself holds.
pub write-expand-own : (b room room' : List ℕ) → Bytes b → (expand b room).number ≡ 0 → AllWorth b → length b ≤ length room'
    → write (result (expand b room)) (default_bytes b) room' ≡ building 0 b room'
write-expand-own b room room' B e = write-expand b (default_bytes b) room room' B (own-defaults b (expand_leaves b room e).0) e

-- Of an image with a default not worth its hops it then answers 25.
pub write-expand_weak : (b room room' : List ℕ) → Bytes b → (expand b room).number ≡ 0 → ¬ AllWorth b → (write (result (expand b room)) (default_bytes b) room').number ≡ 25
write-expand_weak b room room' B e weak =
    let (judged, w) = expand_leaves b room e in
    ap (λ (t : List ℕ). (write t (default_bytes b) room').number) w ∙ write_table_weak b (default_bytes b) room' B judged (own-defaults b judged) weak

-- So with what is promised: the numbers and the room that expand leaves, and those that write leaves of its result.
pub writes_back : (b ds room room' : List ℕ) (number l number' l' : ℕ) (r r' : List ℕ) → Bytes b → HoldsDefaults b ds
    → Expands b room number l r → number ≡ 0 → AllWorth b → Writes (take l r) ds room' number' l' r' → length b ≤ length room'
    → IsBuilt (building 0 b room') number' l' r'
writes_back b ds room room' number l number' l' r r' B D P e worth Q h =
    result_promised (λ t. write t ds room') P Q (write-expand b ds room room' B D (sym P.number_is ∙ e) worth h)
