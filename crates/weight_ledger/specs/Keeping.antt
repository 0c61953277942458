-- The rule of a cell. Its table has one slot for the value, word 0 for the lock (0: at home; 1: claimed; 3: out), and
-- word 1 + p for the total of the place p.
use Rattle.std.specs.Prelude.{◌≡◌, ◌≢◌, ℕ, zero, suc, ◌+◌, ◌<◌, ◌≤◌, List, [], ◌∷◌, take, drop, length, slice_index, slice_set, Option, Some, None}
use mathlib.Core.Option.{some}
use lib.ListN.{get_elem?}
use Rattle.atomic_table.specs.Table.{State}
use Rattle.weight_ledger.specs.declared.view.View.{View}
use Rattle.weight_ledger.specs.Amounts.{added, lessened, zeros, all_owned}

abbrev pub total : {A : Type 0} → (A → ℕ) → List A → ℕ
total f [] = 0
total f (x ∷ xs) = f x + total f xs

-- 1 for any number but 0
abbrev pub one_if : ℕ → ℕ
one_if zero = 0
one_if (suc n) = 1

module _ {L : Type 0} where
  -- a seat's amount at a place, and 1 where it owns the place
  abbrev pub amount : ℕ → View L → ℕ
  amount place v = slice_index v.amounts place

  abbrev pub owner : ℕ → View L → ℕ
  owner place v = slice_index v.owns place

  abbrev pub busy : View L → ℕ
  busy v = one_if v.phase

  -- the view of the first seat: the tally that owns all owned places
  abbrev pub founder : L → ℕ → ℕ → View L
  founder label shared owned = record { label = Some label; phase = 0; book = []; amounts = zeros (shared + owned); owns = all_owned shared owned }

  abbrev pub newcomer : Option L → View L
  newcomer label = record { label = label; phase = 0; book = []; amounts = []; owns = [] }

  abbrev pub in_phase : View L → ℕ → List ℕ → View L
  in_phase v n book = record v { phase = n; book = book }

  -- a view that takes in another, which is spent
  abbrev pub both : View L → View L → View L
  both v w = record v { amounts = added v.amounts w.amounts; owns = added v.owns w.owns }

  abbrev pub spent : View L
  spent = newcomer None

  -- a view without what it had, and an idle one with it
  abbrev pub emptied : View L → View L
  emptied v = record v { amounts = []; owns = [] }

  abbrev pub token : View L → View L
  token v = record v { phase = 0; book = [] }

  -- a view without a part of what it had, and an idle one with the part
  abbrev pub less : View L → List ℕ → List ℕ → View L
  less v amounts owns = record v { amounts = lessened v.amounts amounts; owns = lessened v.owns owns }

  abbrev pub piece : View L → List ℕ → List ℕ → View L
  piece v amounts owns = record { label = v.label; phase = 0; book = []; amounts = amounts; owns = owns }

  -- a holder changes the total of a place and its amount there
  abbrev pub changed : View L → ℕ → ℕ → ℕ → View L
  changed v place there mine = record v { book = slice_set v.book place there; amounts = slice_set v.amounts place mine }

  -- What a seat that claims or holds knows: its phase is the lock's word, and its book has the totals of the places
  -- that it has read, which are all where it holds.
  pub record Knows (words : List ℕ) (v : View L) : Type 0 where
    pub phase : v.phase ≡ slice_index words 0
    pub book : v.book ≡ take (length v.book) (drop 1 words)
    pub short : length v.book + 1 ≤ length words
    pub whole : v.phase ≡ 3 → length v.book + 1 ≡ length words

  -- a tally's seat: it is idle, and has an amount for each place
  abbrev pub Idle : ℕ → List (View L) → Type 0
  Idle words views = (v : View L) × (views ≡ v ∷ []) × (v.phase ≡ 0) × (length v.amounts + 1 ≡ words)

  abbrev pub amounts_of : List (View L) → List ℕ
  amounts_of [] = []
  amounts_of (v ∷ vs) = v.amounts

  abbrev pub owns_of : List (View L) → List ℕ
  owns_of [] = []
  owns_of (v ∷ vs) = v.owns

-- The rule, of a cell whose values have the label `name`. wide, lock: there is a word for the lock and one for each
-- place. single, known: one seat is busy, or none where the lock's word is 0, and what it knows is so. home: unless it
-- is out, the value is at home, has the label, and its totals are the words. sums: each total is the sum of all amounts
-- there. once, common: a place is owned by one at most, and no shared one is. sole: where a seat owns a place no other
-- has an amount there.
pub record Kept {T L : Type 0} (label : T → L) (totals : T → List ℕ) (name : L) (shared owned : ℕ) (s : State (Option T) (View L)) : Type 0 where
  pub wide : length s.words ≡ shared + owned + 1
  pub lock : slice_index s.words 0 ≤ 3
  pub single : total busy s.views ≡ one_if (slice_index s.words 0)
  pub known : (i : ℕ) (v : View L) → get_elem? s.views i ≡ some v → v.phase ≢ 0 → Knows s.words v
  pub home : slice_index s.words 0 < 3 → (x : T) × (get_elem? s.homes 0 ≡ some (some (Some x))) × (label x ≡ name) × (totals x ≡ drop 1 s.words)
  pub sums : (p : ℕ) → slice_index s.words (p + 1) ≡ total (amount p) s.views
  pub once : (p : ℕ) → total (owner p) s.views ≤ 1
  pub common : (p : ℕ) → p < shared → total (owner p) s.views ≡ 0
  pub sole : (p i : ℕ) (v : View L) → get_elem? s.views i ≡ some v → owner p v ≢ 0 → total (amount p) s.views ≡ amount p v
