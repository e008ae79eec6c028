-- Any two outcomes that a promise allows are one, for each operation.
use mathlib.Core.Path.{◌≡◌, sym, ◌∙◌}
use mathlib.Core.List.{List}
use Prim.Native.Nat.{ℕ}
use Rattle.paper.specs.Operations.{Built, Scanned}
use Rattle.paper.specs.Promises.{IsBuilt, IsScanned, SameBuilt, JudgesTable, JudgesImage, Compacts, Writes, Expands, Rewrites, Tabulates, Reduces, MovesForward, MovesBack, Scans, Walks, JudgesPatch, Applies, ScansPatched}

-- Two answers to one question are one.
one : {A : Type 0} {x y z : A} → x ≡ z → y ≡ z → x ≡ y
one p q = p ∙ sym q

built_determined : (o : Built) (n l n' l' : ℕ) (r r' : List ℕ) → IsBuilt o n l r → IsBuilt o n' l' r' → SameBuilt n l r n' l' r'
built_determined o n l n' l' r r' a b = (one a.number_is b.number_is, one a.length_is b.length_is, one a.room_is b.room_is)

scanned_determined : (o : Scanned) (n t q k h n' t' q' k' h' : ℕ) (r r' : List ℕ) → IsScanned o n t q k h r → IsScanned o n' t' q' k' h' r'
    → (n ≡ n') × (t ≡ t') × (q ≡ q') × (k ≡ k') × (h ≡ h') × (r ≡ r')
scanned_determined o n t q k h n' t' q' k' h' r r' x y = (
  one x.number_is y.number_is,
  one x.taken_is y.taken_is,
  one x.state_is y.state_is,
  one x.reports_is y.reports_is,
  one x.hops_is y.hops_is,
  one x.room_is y.room_is,
)

-- Judging a table.
pub judge_table_determined : (t : List ℕ) (n n' : ℕ) → JudgesTable t n → JudgesTable t n' → n ≡ n'
judge_table_determined t n n' = one

-- Judging an image.
pub judge_image_determined : (b : List ℕ) (n n' : ℕ) → JudgesImage b n → JudgesImage b n' → n ≡ n'
judge_image_determined b n n' = one

-- Judging a patch.
pub judge_patch_determined : (b x : List ℕ) (n n' : ℕ) → JudgesPatch b x n → JudgesPatch b x n' → n ≡ n'
judge_patch_determined b x n n' = one

-- Compact.
pub compact_determined : (t : List ℕ) (order D : ℕ) (room : List ℕ) (n l n' l' : ℕ) (r r' : List ℕ)
    → Compacts t order D room n l r → Compacts t order D room n' l' r' → SameBuilt n l r n' l' r'
compact_determined t order D room = built_determined _

-- Write.
pub write_determined : (t ds room : List ℕ) (n l n' l' : ℕ) (r r' : List ℕ)
    → Writes t ds room n l r → Writes t ds room n' l' r' → SameBuilt n l r n' l' r'
write_determined t ds room = built_determined _

-- Expand.
pub expand_determined : (b room : List ℕ) (n l n' l' : ℕ) (r r' : List ℕ)
    → Expands b room n l r → Expands b room n' l' r' → SameBuilt n l r n' l' r'
expand_determined b room = built_determined _

-- Forward.
pub forward_determined : (b room : List ℕ) (n l n' l' : ℕ) (r r' : List ℕ)
    → MovesForward b room n l r → MovesForward b room n' l' r' → SameBuilt n l r n' l' r'
forward_determined b room = built_determined _

-- Back.
pub back_determined : (b room : List ℕ) (n l n' l' : ℕ) (r r' : List ℕ)
    → MovesBack b room n l r → MovesBack b room n' l' r' → SameBuilt n l r n' l' r'
back_determined b room = built_determined _

-- Rewrite.
pub rewrite_determined : (b room : List ℕ) (n l n' l' : ℕ) (r r' : List ℕ)
    → Rewrites b room n l r → Rewrites b room n' l' r' → SameBuilt n l r n' l' r'
rewrite_determined b room = built_determined _

-- Strings.
pub strings_determined : (b room : List ℕ) (n l n' l' : ℕ) (r r' : List ℕ)
    → Tabulates b room n l r → Tabulates b room n' l' r' → SameBuilt n l r n' l' r'
strings_determined b room = built_determined _

-- Reduce.
pub reduce_determined : (t room : List ℕ) (n l n' l' : ℕ) (r r' : List ℕ)
    → Reduces t room n l r → Reduces t room n' l' r' → SameBuilt n l r n' l' r'
reduce_determined t room = built_determined _

-- Apply.
pub apply_determined : (b x room : List ℕ) (n l n' l' : ℕ) (r r' : List ℕ)
    → Applies b x room n l r → Applies b x room n' l' r' → SameBuilt n l r n' l' r'
apply_determined b x room = built_determined _

-- Scan.
pub scan_determined : (b : List ℕ) (s : ℕ) (payload room : List ℕ) (n t q k h n' t' q' k' h' : ℕ) (r r' : List ℕ)
    → Scans b s payload room n t q k h r → Scans b s payload room n' t' q' k' h' r'
    → (n ≡ n') × (t ≡ t') × (q ≡ q') × (k ≡ k') × (h ≡ h') × (r ≡ r')
scan_determined b s payload room = scanned_determined _

-- Walk.
pub walk_determined : (b : List ℕ) (s : ℕ) (payload room : List ℕ) (n t q k h n' t' q' k' h' : ℕ) (r r' : List ℕ)
    → Walks b s payload room n t q k h r → Walks b s payload room n' t' q' k' h' r'
    → (n ≡ n') × (t ≡ t') × (q ≡ q') × (k ≡ k') × (h ≡ h') × (r ≡ r')
walk_determined b s payload room = scanned_determined _

-- The patched scan.
pub patched_scan_determined : (b x : List ℕ) (s : ℕ) (payload room : List ℕ) (n t q k h n' t' q' k' h' : ℕ) (r r' : List ℕ)
    → ScansPatched b x s payload room n t q k h r → ScansPatched b x s payload room n' t' q' k' h' r'
    → (n ≡ n') × (t ≡ t') × (q ≡ q') × (k ≡ k') × (h ≡ h') × (r ≡ r')
patched_scan_determined b x s payload room = scanned_determined _
