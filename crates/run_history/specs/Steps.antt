-- What seats know, how views are cut and joined, and what the steps of the history table tell.
use Rattle.std.specs.Prelude.{◌≡◌, ℕ, ◌+◌, ◌<◌, true, false, nat_lt, if◌then◌else◌, List, [], ◌∷◌, ◌++◌, All, AllPairs, ◌≢◌, length}
use Rattle.atomic_table.specs.Seated.{TableId}
use Rattle.tact_base.specs.Setup.{Setup}
use Rattle.run_model.specs.Histories.{part_of, IsPrefix}
use Rattle.run_model.specs.Runs.{IsRun}
use Rattle.run_model.specs.declared.entry.Entry.{Entry}
use Rattle.run_history.specs.declared.view.Part.{Part}
use Rattle.run_history.specs.declared.view.View.{View}
use Rattle.run_history.specs.Ticks.{drawn_by, entries_of, EndsWith}

-- a seat is of a table, which has two words
abbrev pub IsSeatOf : TableId → TableId → Type 0
IsSeatOf table seat = (seat ≡ table) × (table.words ≡ 2)

-- the part of a replica that drew these pairs
abbrev pub part_with : ℕ → List (ℕ × Entry) → Part
part_with replica pairs = record { replica = replica; pairs = pairs }

-- the pairs of the first of parts
abbrev pub first_pairs : List Part → List (ℕ × Entry)
first_pairs [] = []
first_pairs (part ∷ parts) = part.pairs

-- the history that the first of views has seen, and the pairs of its first part
abbrev pub seen_in : List View → List Entry
seen_in [] = []
seen_in (view ∷ views) = view.seen

abbrev pub pairs_in : List View → List (ℕ × Entry)
pairs_in [] = []
pairs_in (view ∷ views) = first_pairs view.parts

-- the view of a seat that knows nothing, as of one that is spent
abbrev pub nothing_known : View
nothing_known = record { opens = false; enrolled = 0; seen = []; olds = []; parts = [] }

-- the first seat, which enrols
abbrev pub opener : Setup → View
opener setup = record nothing_known { opens = true }

-- a clerk of a replica: it has the one part, and has seen all of it
pub record IsClerk (replica : ℕ) (view : View) : Type 0 where
  pub closed : view.opens ≡ false
  pub part : view.parts ≡ part_with replica (first_pairs view.parts) ∷ []
  pub own : part_of view.seen replica ≡ entries_of (first_pairs view.parts)

-- a note: it has no part
pub record IsNote (view : View) : Type 0 where
  pub closed : view.opens ≡ false
  pub none : view.parts ≡ []

-- a note of a seat, which keeps what it has
abbrev pub noted : View → View
noted view = record view { opens = false; enrolled = 0; parts = [] }

-- a seat hands its parts to a new one
abbrev pub handing : View → View
handing view = record view { parts = [] }

abbrev pub handed : View → View
handed view = record view { opens = false; enrolled = 0 }

-- the longer of two histories
abbrev pub longer : List Entry → List Entry → List Entry
longer one other = if nat_lt (length one) (length other) then other else one

-- a seat takes in what another has
abbrev pub joined : View → View → View
joined view other = record {
  opens = view.opens;
  enrolled = view.enrolled;
  seen = longer view.seen other.seen;
  olds = view.seen ∷ other.seen ∷ (view.olds ++ other.olds);
  parts = view.parts ++ other.parts;
}

-- enrol: the opener has the part, empty, of the number that was found
pub record IsEnrolled (before : View) (found : ℕ) (after : View) : Type 0 where
  pub number : found ≡ before.enrolled
  pub is : after ≡ record before { enrolled = found + 1; parts = part_with found [] ∷ [] }

-- draw: the clerk's part has the entry with its tick, and it has seen the history up to and with the entry
pub record IsDrawn (setup : Setup) (entry : Entry) (before : View) (tick : ℕ) (after : View)
    : Type 0 where
  pub clerk : IsClerk entry.replica after
  pub pairs : first_pairs after.parts ≡ first_pairs before.parts ++ (tick, entry) ∷ []
  pub seen : EndsWith entry tick before.seen after.seen
  pub run : IsRun setup after.seen

-- look: the seat has seen the whole history, which begins with all that it saw earlier, and its length was found
pub record IsLooked (setup : Setup) (before : View) (found : ℕ) (after : View) : Type 0 where
  pub is : after ≡ record before { seen = after.seen }
  pub number : found ≡ length after.seen
  pub front : IsPrefix before.seen after.seen
  pub fronts : All (λ old. IsPrefix old after.seen) before.olds
  pub parts : All (λ (part : Part). part.pairs ≡ drawn_by after.seen part.replica) before.parts
  pub among : All (λ (part : Part). part.replica < setup.replicas) before.parts
  pub apart : AllPairs (λ (one other : Part). one.replica ≢ other.replica) before.parts
  pub run : IsRun setup after.seen

-- A badge's views: the one of a clerk of a replica, and the one of a note.
pub record HoldsClerk (replica : ℕ) (views : List View) : Type 0 where
  pub view : View
  pub only : views ≡ view ∷ []
  pub clerk : IsClerk replica view

pub record HoldsNote (views : List View) : Type 0 where
  pub view : View
  pub only : views ≡ view ∷ []
  pub note : IsNote view

-- a seat that took in another and then looked: it has seen a history that begins with what both had seen
pub record Meets (setup : Setup) (before other after : View) : Type 0 where
  pub first : IsPrefix before.seen after.seen
  pub second : IsPrefix other.seen after.seen
  pub run : IsRun setup after.seen
