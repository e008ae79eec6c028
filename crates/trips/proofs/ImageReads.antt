-- A list of bytes that reads as the image of a view: where the view fits the list is accepted, and an accepted image reads as its own view's.
use mathlib.Core.Path.{◌≡◌, sym, ◌∙◌}
use mathlib.Core.List.{List}
use Prim.Native.Nat.{ℕ, ◌+◌, ◌-◌, ◌*◌, ◌≤◌, ◌<◌}
use native.Mathlib.Omega.{arith}
use lib.ListN.{length, take}
use Rattle.paper.specs.Words.{words, check_word_of}
use Rattle.paper.specs.Labels.{Edition}
use Rattle.paper.specs.View.{View, depth_of, worst_hops}
use Rattle.paper.specs.Image as image
use Rattle.paper.specs.Image.{image_length_of, image_view}
use Rattle.paper.specs.Results.{labels_held_of}
use Rattle.paper.proofs.Sums.{sum-before, sum_bound}
use Rattle.paper.proofs.Chain.{Inside, chain-root}
use Rattle.paper.proofs.Labels.{Small, behind_same}
use Rattle.facts.proofs.LabelFacts.{Labelled, labelled_same}
use Rattle.facts.proofs.TableFacts.{Classed}
use Rattle.facts.proofs.ViewFacts.{Sound}
use Rattle.facts.proofs.ImageFacts.{AcceptedImage}
use Rattle.trips.proofs.Agree.{Agree, total_same, depth_same, worst_same, sound_same}
use Rattle.trips.proofs.ImageParts.{total}

-- Classes that are read the same are right together.
pub classed_same : (k k' : ℕ) (class_of class_of' : ℕ → ℕ) → k ≡ k' → ((x : ℕ) → x < 256 → class_of' x ≡ class_of x) → Classed 256 k class_of → Classed 256 k' class_of'
classed_same k k' class_of class_of' e same C =
    record {
      below = λ x h. omega (arith, same x h, C.below x h);
      used = λ c h. let (x, hx, q) = C.used c (omega arith) in (x, hx, same x hx ∙ q);
    }

module _ (e : Edition) (v : View) (start : ℕ) (class_of : ℕ → ℕ) (labels : ℕ → List ℕ) where
  -- How many labels stand behind their counts.
  abbrev held : ℕ
  held = labels_held_of e v.states labels

  -- The view is sound and of a size that images have, with its start state, the classes of the bytes and the labels.
  pub record Fits : Type 0 where
    pub some_states : 1 ≤ v.states
    pub few_states : v.states ≤ 512
    pub some_classes : 1 ≤ v.classes
    pub few_classes : v.classes ≤ 256
    pub begins : start < v.states
    pub all_classed : Classed 256 v.classes class_of
    pub all_labelled : (s : ℕ) → s < v.states → Labelled e (labels s)
    pub all_small : (s : ℕ) → s < v.states → Small (labels s)
    pub right : Sound v

  -- All this is read of b, and its trailer is right.
  pub record ImageReads (b : List ℕ) : Type 0 where
    pub long : length b ≡ image_length_of v.states (total v) held
    pub edition_is : image.edition b ≡ e
    pub start_is : image.start b ≡ start
    pub depth_is : image.depth b ≡ depth_of v
    pub entries_are : image.entries b ≡ total v
    pub class_is : (x : ℕ) → x < 256 → image.class_of b x ≡ class_of x
    pub labels_are : (s : ℕ) → s < v.states → image.labels b s ≡ labels s
    pub view_is : Agree v (image_view b)
    pub distance_is : image.distance_back b ≡ 4 * total v + 12
    pub whole_is : image.whole_length b ≡ image_length_of v.states (total v) held
    pub worst_is : image.worst b ≡ worst_hops v class_of
    pub check_is : image.check b ≡ check_word_of (words (take (length b - 2) b))

  -- As many labels stand behind the counts of b as are read of it.
  behind_is : (b : List ℕ) → v.states ≡ image.states b → image.edition b ≡ e → ((s : ℕ) → s < v.states → image.labels b s ≡ labels s) → image.behind b ≡ held
  unfolding image.labels
  behind_is b N E h = behind_same b 268 (image.states b) v.states (image.edition b) e labels (sym N) E h

  module _ (F : Fits) where
    -- There are at most n times k entries.
    pub total_bound : total v ≤ v.states * v.classes
    total_bound = sum_bound v.states v.classes v.count F.right.few

    -- A state without a default stores all its classes, so there are as many entries as classes.
    enough : v.classes ≤ total v
    enough =
        let (l, e) = F.right.ends 0 F.some_states in
        let (r, hr, q) = chain-root v F.right.inside v.states 0 l F.some_states e in
        omega (arith, F.right.full r hr q, sum-before v.states r v.count hr)

    -- So what is read is accepted.
    pub reads_accepted : (b : List ℕ) → ImageReads b → AcceptedImage b
    reads_accepted b R =
        let w = image_view b in
        let S = R.view_is in
        let N = S.states_same in
        let K = S.classes_same in
        let M = R.entries_are in
        record {
          some_states = omega (arith, F.some_states);
          few_states = omega (arith, F.few_states);
          some_classes = omega (arith, F.some_classes);
          few_classes = omega (arith, F.few_classes);
          enough = omega (arith, enough);
          not_many = rw (M, ← N, ← K) total_bound;
          long = omega (arith, R.long, behind_is b N R.edition_is R.labels_are);
          whole = R.whole_is ∙ sym R.long;
          distance = omega (arith, R.distance_is);
          checked = R.check_is;
          begins = omega (arith, R.start_is, F.begins);
          all_classed = classed_same v.classes (image.classes b) class_of (image.class_of b) K R.class_is F.all_classed;
          all_labelled = λ s hs. let l : s < v.states = omega arith in labelled_same R.edition_is (R.labels_are s l) (F.all_labelled s l);
          right = sound_same v w S F.right;
          stated =
              record {
                total = sym (total_same v w S) ∙ sym M;
                deep = R.depth_is ∙ depth_same v w S F.right.inside;
                far = R.worst_is ∙ worst_same v w S F.right.inside class_of (image.class_of b) (λ x hx. sym (R.class_is x hx));
              };
        }

  -- An accepted image whose view agrees with v reads as the image of v.
  pub accepted_reads : (b : List ℕ) → AcceptedImage b → Agree v (image_view b) → Inside v → image.edition b ≡ e → image.start b ≡ start
      → ((x : ℕ) → x < 256 → image.class_of b x ≡ class_of x) → ((s : ℕ) → s < v.states → image.labels b s ≡ labels s) → ImageReads b
  accepted_reads b A S inside edition starts classed labelled =
      let w = image_view b in
      let N = S.states_same in
      let M : image.entries b ≡ total v = sym (total_same v w S ∙ A.stated.total) in
      let L : length b ≡ image_length_of v.states (total v) held = omega (arith, A.long, behind_is b N edition labelled) in
      record {
        long = L;
        edition_is = edition;
        start_is = starts;
        depth_is = A.stated.deep ∙ sym (depth_same v w S inside);
        entries_are = M;
        class_is = classed;
        labels_are = labelled;
        view_is = S;
        distance_is = omega (arith, A.distance);
        whole_is = A.whole ∙ L;
        worst_is = A.stated.far ∙ sym (worst_same v w S inside class_of (image.class_of b) (λ x hx. sym (classed x hx)));
        check_is = A.checked;
      }
