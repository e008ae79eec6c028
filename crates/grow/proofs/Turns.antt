-- One byte more of a string, and one string more, over plain values.
use mathlib.Core.Path.{◌≡◌, sym, ap, subst, ◌∙◌}
use mathlib.Core.List.{List, [], ◌∷◌, ◌++◌}
use Prim.Native.Nat.{ℕ, suc, ◌+◌, ◌≤◌, ◌<◌}
use native.Mathlib.Omega.{arith}
use lib.ListN.{length, get_or, set}
use Rattle.paper.specs.Words.{byte_at}
use Rattle.paper.specs.Strings.{rules, count, size, string, names, class_of}
use Rattle.paper.proofs.Filled.{Filled}
use Rattle.strings.proofs.Places.{string-length, string_byte}
use Rattle.strings.proofs.Shape.{Starts, place_most}
use Rattle.strings.proofs.Marked.{string-used}
use Rattle.strings.proofs.Spread.{Alone, classed_alone}
use Rattle.strings.proofs.Needed.{added}
use Rattle.strings.proofs.Parts.{part, part_more, part_length}
use Rattle.strings.proofs.Strings.{string_inside, string_part}
use Rattle.strings.proofs.Grow.{Stepped}
use Rattle.strings.proofs.Putting.{put_in, put_next, put_more, up_to, up_next, up_all, up_more}
use Rattle.strings.proofs.Held.{Held, held_one, held_some, step_name, step_held}

-- With j bytes of a string put in the arrays hold its beginnings, and p is the state of the last.
pub record Put (b : List ℕ) (ws : List (List ℕ)) (at j : ℕ) (rows parent last long from : List ℕ) (n p : ℕ) : Type 0 where
  pub holds : Held b (put_in b at ws j) rows parent last long from n
  pub here : p < n
  pub name : get_or (put_in b at ws j) p [] ≡ part b at j

-- At first it is state 0.
pub put_none : (b : List ℕ) (ws : List (List ℕ)) (at : ℕ) (rows parent last long from : List ℕ) (n : ℕ) → Held b ws rows parent last long from n → Put b ws at 0 rows parent last long from n 0
put_none b ws at rows parent last long from n H =
    let (l, e) = held_some b ws rows parent last long from n H in
    record { holds = H; here = l; name = e }

-- The name of the last state is shorter than the string.
pub put_short : (b : List ℕ) (ws : List (List ℕ)) (at j : ℕ) (rows parent last long from : List ℕ) (n p : ℕ) → at + j ≤ length b
    → Put b ws at j rows parent last long from n p → get_or long p 0 ≡ j
put_short b ws at j rows parent last long from n p h P =
    P.holds.grown.longs p (omega (arith, P.here, P.holds.counted)) ∙ ap length P.name ∙ part_length b at j h

module _ (b : List ℕ) (ws : List (List ℕ)) (at j : ℕ) (rows parent last long from : List ℕ) (n p a : ℕ) (ea : a ≡ byte_at b (at + j)) (fits : at + j < length b)
    (P : Put b ws at j rows parent last long from n p) where
  longer : get_or (put_in b at ws j) p [] ++ (a ∷ []) ≡ part b at (suc j)
  longer = ap (λ (v : List ℕ). v ++ (a ∷ [])) P.name ∙ ap (λ (x : ℕ). part b at j ++ (x ∷ [])) ea ∙ sym (part_more b at j fits)

  -- No room for it: there are more than 512 names.
  pub put_full : (size : ℕ) → j < size → 512 < length (added (put_in b at ws j) (get_or (put_in b at ws j) p [] ++ (a ∷ []))) → 512 < length (put_in b at ws size)
  put_full size h f =
      omega (arith, ap (λ (w : List ℕ). length (added (put_in b at ws j) w)) longer, ap length (put_next b at ws j), put_more b at ws (suc j) size h)

  -- One byte more.
  pub put_turn : (r m : ℕ) (rows' parent' last' long' : List ℕ) → Stepped (put_in b at ws j) p a r m rows' parent' last' long' → length from ≡ 512 → m ≤ 512
      → Put b ws at (j + 1) rows' parent' last' long' (set from r at) m r
  put_turn r m rows' parent' last' long' S big few =
      let e : suc j ≡ j + 1 = omega arith in
      let (H, h) = step_held b (put_in b at ws j) rows parent last long from n P.holds p a r m at j rows' parent' last' long' S longer (omega arith) big few in
      subst (λ (x : ℕ). Put b ws at x rows' parent' last' long' (set from r at) m r) e (record {
        holds = subst (λ (us : List (List ℕ)). Held b us rows' parent' last' long' (set from r at) m) (sym (put_next b at ws j)) H;
        here = h;
        name =
            ap (λ (us : List (List ℕ)). get_or us r []) (put_next b at ws j)
            ∙ step_name b (put_in b at ws j) rows parent last long from n P.holds p a r m at j rows' parent' last' long' S longer (omega arith);
      })

-- Before the first string there is the empty string only.
pub all_none : (b rows parent last long from : List ℕ) → ((i : ℕ) → get_or rows i 0 ≡ 0) → get_or long 0 0 ≡ 0 → get_or from 0 0 ≡ 0 → Held b (up_to b 0) rows parent last long from 1
unfolding names
all_none b rows parent last long from z l f = held_one b rows parent last long from z l f

module _ (b starts : List ℕ) (n : ℕ) (S : Starts b starts n) where
  module _ (i : ℕ) (h : i < n) where
    -- The string is one of the list.
    one : i < count b
    one = omega (arith, S.counted)

    -- Its bytes stand inside the list, from a place of 16 bits on, and are not many.
    pub string_place : (get_or starts i 0 + 4 + size b i ≤ length b) × (get_or starts i 0 ≤ 2306) × (size b i ≤ 32)
    string_place =
        (omega (arith, string_inside b starts n S i h), omega (arith, S.start_is i h, place_most b S.shape i (omega (arith, one)), S.shape.few, one), (S.shape.sizes i one).1)

    module _ (s : List ℕ) (e : s ≡ string b i) where
      -- They are so many,
      pub bytes_length : length s ≡ size b i
      bytes_length = ap length e ∙ string-length b S.shape.ending i one

      -- and each is a byte of the list,
      pub byte_read : (j : ℕ) → j < length s → get_or s j 0 ≡ byte_at b (get_or starts i 0 + 4 + j)
      byte_read j l =
          ap (λ (w : List ℕ). get_or w j 0) e ∙ string_byte b i j (omega (arith, bytes_length)) ∙ ap (λ (at : ℕ). byte_at b (at + 4 + j)) (sym (S.start_is i h))

      -- which has its class for itself.
      pub byte_alone : (classes : List ℕ) → Filled (class_of (rules b)) classes 256 → (j : ℕ) → j < length s → get_or s j 0 < 256 → Alone classes (get_or s j 0)
      byte_alone classes F j l small = classed_alone (rules b) classes F (get_or s j 0) small (rw e (string-used b i j one (omega (arith, ap length e))))

    -- The names of one string more.
    pub all_next : (x : ℕ) → x ≡ size b i → up_to b (i + 1) ≡ put_in b (get_or starts i 0 + 4) (up_to b i) x
    all_next x e =
        let q : i + 1 ≡ suc i = omega arith in
        ap (up_to b) q ∙ up_next b (get_or starts i 0 + 4) x i (string_part b starts n S i h x e) (string-length b S.shape.ending i one ∙ sym e)

    -- Where the first strings have too many, the list has.
    pub all_full : 512 < length (up_to b (i + 1)) → 512 < length (names (rules b))
    all_full l =
        let place : (i : ℕ) → i < count b → (at : ℕ) × (string b i ≡ part b at (length (string b i))) = λ i k.
        let k' : i < n = omega (arith, S.counted) in
        (get_or starts i 0 + 4, string_part b starts n S i k' (length (string b i)) (string-length b S.shape.ending i k)) in
        omega (arith, up_more b place (i + 1) (count b) (omega (arith, S.counted)) (omega arith), ap length (up_all b S.shape.some))

  -- With all strings they are those of the list.
  pub all_names : (i : ℕ) → i ≡ n → up_to b i ≡ names (rules b)
  all_names i e = ap (up_to b) (e ∙ S.counted) ∙ up_all b S.shape.some
