-- What the chains give for one class, where what each state stores for it is kept as a list, 65535 for nothing stored here.
use Rattle.std.specs.Prelude.{◌≡◌, List, ℕ, suc, ◌<◌, length, get_or}
use Rattle.std.proofs.Math.Option.{Option, none, some}
use Rattle.paper.specs.View.{View, stored, find}
use Rattle.paper.specs.Image.{default_from_of}

-- A view has n states with these defaults.
pub record Falls (v : View) (n : ℕ) (def : List ℕ) : Type 0 where
  pub counted : v.states ≡ n
  pub falls : (s : ℕ) → s < n → v.default s ≡ default_from_of (get_or def s 0)

-- The states of a view store these targets for a class.
abbrev pub Stores : View → ℕ → ℕ → List ℕ → Type 0
Stores v c n own = (s : ℕ) → s < n → stored v s c ≡ default_from_of (get_or own s 0)

-- Each state without a default stores a target.
abbrev pub RootsStore : ℕ → List ℕ → List ℕ → Type 0
RootsStore n def own = (s : ℕ) → s < n → get_or def s 0 ≡ 65535 → ¬ (get_or own s 0 ≡ 65535)

-- The target and the hops that are kept for a state; which state served is not.
abbrev pub kept_at : List ℕ → List ℕ → ℕ → ℕ × ℕ
kept_at to hop s = (get_or to s 0, get_or hop s 0)

-- The target and the hops of a state, by what it stores and what is kept for its default.
abbrev pub reckoned : Option ℕ → Option ℕ → (ℕ → ℕ × ℕ) → Option (ℕ × ℕ)
reckoned (some t) default kept = some (t, 0)
reckoned none none kept = none
reckoned none (some d) kept = some ((kept d).0, suc (kept d).1)

-- A look-up finds this target after so many hops, whichever state served.
abbrev pub FindsIn : View → ℕ → ℕ → ℕ → ℕ → Type 0
FindsIn v s c target hops = (server : ℕ) × (find v s c ≡ some (record { target = target; hops = hops; server = server }))

-- In every view with these defaults, for every class of which its states store these targets, each chain gives the target and the hops that are kept.
pub record Resolves (n : ℕ) (def own to hop : List ℕ) : Type 0 where
  pub to_long : length to ≡ 512
  pub hop_long : length hop ≡ 512
  pub finds : (v : View) (c : ℕ) → Falls v n def → Stores v c n own → (s : ℕ) → s < n → FindsIn v s c (get_or to s 0) (get_or hop s 0)
