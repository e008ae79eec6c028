-- The numbers that stand for answers: a refusal's own, 0 where nothing was refused.
use Rattle.std.specs.Prelude.{◌≡◌, ℕ, Result, Ok, Err}
use Rattle.answers.specs.declared.Refusal.{Refusal}
use Rattle.answers.specs.declared.Refusal.TheVariants.{TooShort, Counts, Length, Trailer, CheckWord, StartState, Classes, Defaults, EntryClasses, NextStates, Endless, Needless, Costs, State, Payload, Room, Order, Labels, Edition, ManyLabels, PatchShape, OtherImage, ListedStates, FewShared, ListShape, ListLabels, ManyStates}
use Rattle.answers.specs.declared.Ran.{Ran}

-- The number of a refusal.
abbrev pub number_of : Refusal → ℕ
number_of TooShort = 1
number_of Counts = 2
number_of Length = 3
number_of Trailer = 4
number_of CheckWord = 5
number_of StartState = 6
number_of Classes = 7
number_of Defaults = 8
number_of EntryClasses = 9
number_of NextStates = 10
number_of Endless = 11
number_of Needless = 12
number_of Costs = 13
number_of State = 14
number_of Payload = 15
number_of Room = 16
number_of Order = 18
number_of Labels = 19
number_of Edition = 20
number_of ManyLabels = 21
number_of PatchShape = 22
number_of OtherImage = 23
number_of ListedStates = 24
number_of FewShared = 25
number_of ListShape = 26
number_of ListLabels = 27
number_of ManyStates = 28

-- The number of an answer: 0, or that of its refusal.
abbrev pub answer_of : {A : Type 0} → Result A Refusal → ℕ
answer_of (Ok a) = 0
answer_of (Err refusal) = number_of refusal

-- The length that an answer gives: 0 where it is refused.
abbrev pub length_of : Result ℕ Refusal → ℕ
length_of (Ok length) = length
length_of (Err refusal) = 0

-- The numbers that stand for a run or its refusal.
abbrev pub Scans : Result Ran Refusal → ℕ → ℕ → ℕ → ℕ → ℕ → Type 0
Scans (Ok run) refused taken state reports hops = (refused ≡ 0) × (taken ≡ run.taken) × (state ≡ run.state) × (reports ≡ run.reports) × (hops ≡ run.hops)
Scans (Err refusal) refused taken state reports hops = (refused ≡ number_of refusal) × (taken ≡ 0) × (state ≡ 0) × (reports ≡ 0) × (hops ≡ 0)
