-- What stays true of a node's book when an entry is made, fails, is found again, or is resumed.
use Rattle.std.proofs.Common.{◌≡◌, ◌≢◌, ℕ, ◌+◌, ◌-◌, ◌*◌, ◌<◌, ◌≤◌, Bool, true, false, cond, List, Option, None, Some, length, get_or, set, refl, sym, ap, ◌∙◌, subst, ⊎_elim, arith, get_or-set_same, get_or-set_other}
use Rattle.std.proofs.lemmas.Bool.{cases_eq, eq-eqb, ne_eqb}
use Rattle.std.proofs.lemmas.List.{length-set, set-get_or}
use Rattle.std.proofs.lemmas.List.Sums.{sum_by-set}
use Rattle.tact_base.specs.declared.limits.TheConstants.{CLIENTS}
use Rattle.locked_replica.specs.Locks.{made_place, one_more_at, turns_place}
use Rattle.replica_lock.specs.Ledgers.{IsBooked, amount_in, doubt_place, doubted_owe, less_at, more_at, nothing_owed, owe_of, owed_by, owed_on, resumed_book, resumed_owe, standing}
use Rattle.replica_lock.specs.declared.owe.Owe.{Owe}

-- two lists go from one another as far as two others
abbrev pub IsGapKept : ℕ → List ℕ → List ℕ → List ℕ → List ℕ → Type 0
IsGapKept bound totals book more further = (p : ℕ) → p < bound → get_or more p 0 + get_or book p 0 ≡ get_or totals p 0 + get_or further p 0

pub gap-more : (bound place : ℕ) (totals book : List ℕ)
    → place < length totals
    → place < length book
    → IsGapKept bound totals book (one_more_at place totals) (one_more_at place book)
gap-more bound place totals book in_totals in_book p within =
    ⊎_elim
    (λ (same : p ≡ place).
    let one = ap (λ q. get_or (one_more_at place totals) q 0) same ∙ get_or-set_same totals place (get_or totals place 0 + 1) 0 in_totals in
    let other = ap (λ q. get_or (one_more_at place book) q 0) same ∙ get_or-set_same book place (get_or book place 0 + 1) 0 in_book in
    let was = ap (λ q. get_or totals q 0) same in
    let were = ap (λ q. get_or book q 0) same in
    omega (arith, one, other, was, were))
    (λ (apart : p ≡ place → ⊥).
    omega (arith, get_or-set_other totals place p (get_or totals place 0 + 1) 0 apart, get_or-set_other book place p (get_or book place 0 + 1) 0 apart))
    (cases_eq p place)

-- where a place gets another number, and the other as much more or less
pub gap-set : (bound place number told : ℕ) (totals book : List ℕ)
    → place < length totals
    → place < length book
    → number + get_or book place 0 ≡ get_or totals place 0 + told
    → IsGapKept bound totals book (set totals place number) (set book place told)
gap-set bound place number told totals book in_totals in_book as_far p within =
    ⊎_elim
    (λ (same : p ≡ place).
    let one = ap (λ q. get_or (set totals place number) q 0) same ∙ get_or-set_same totals place number 0 in_totals in
    let other = ap (λ q. get_or (set book place told) q 0) same ∙ get_or-set_same book place told 0 in_book in
    let was = ap (λ q. get_or totals q 0) same in
    let were = ap (λ q. get_or book q 0) same in
    omega (arith, one, other, was, were, as_far))
    (λ (apart : p ≡ place → ⊥).
    omega (arith, get_or-set_other totals place p number 0 apart, get_or-set_other book place p told 0 apart))
    (cases_eq p place)

pub gap-trans : (bound : ℕ) (totals book more further most furthest : List ℕ)
    → IsGapKept bound totals book more further
    → IsGapKept bound more further most furthest
    → IsGapKept bound totals book most furthest
gap-trans bound totals book more further most furthest one two p within = omega (arith, one p within, two p within)

-- where both lists go on alike, and no doubt ends
pub IsBooked-gap : (conits : ℕ) (totals book more further : List ℕ) (owes : List Owe)
    → IsBooked conits totals book owes
    → length more ≡ length totals
    → length further ≡ length book
    → IsGapKept (conits + 2 * CLIENTS) totals book more further
    → ((client : ℕ) → client < CLIENTS → get_or further (doubt_place conits client) 0 ≡ get_or book (doubt_place conits client) 0)
    → IsBooked conits more further owes
IsBooked-gap conits totals book more further owes booked sized sized_too gap doubts = record {
  totals_sized = sized ∙ booked.totals_sized;
  book_sized = sized_too ∙ booked.book_sized;
  owes_sized = booked.owes_sized;
  amounts = λ conit within. omega (arith, gap conit (omega (arith, within)), booked.amounts conit within);
  turns = λ client among. omega (arith, gap (turns_place conits client) (omega (arith, among)), booked.turns client among);
  made = λ client among. omega (arith, gap (made_place conits client) (omega (arith, among)), booked.made client among);
  certain = λ client among none. booked.certain client among (sym (doubts client among) ∙ none);
  within = booked.within;
}

-- of all that is owed, where a client is owed something else
pub owed_on-set : (owes : List Owe) (client conit : ℕ) (owe : Owe)
    → client < length owes
    → owed_on (set owes client owe) conit + owed_by conit (owe_of owes client) ≡ owed_on owes conit + owed_by conit owe
owed_on-set owes client conit owe within = let sums = sum_by-set (owed_by conit) owes client owe nothing_owed within in omega (arith, sums)

pub owe_of-set : (owes : List Owe) (client : ℕ) (owe : Owe) → client < length owes → owe_of (set owes client owe) client ≡ owe
owe_of-set owes client owe within = get_or-set_same owes client owe nothing_owed within

pub owe_of-other : (owes : List Owe) (client other : ℕ) (owe : Owe) → other ≢ client → owe_of (set owes client owe) other ≡ owe_of owes other
owe_of-other owes client other owe apart = get_or-set_other owes client other owe nothing_owed apart

-- Where a client is owed something else: of its conit, of its turns and of its entries the totals and the book go from one
-- another as far as that asks, and elsewhere as before. The client is in doubt then, or is owed nothing.
module _ (conits : ℕ) (totals book more further : List ℕ) (owes : List Owe) (client : ℕ) (owe : Owe) (booked : IsBooked conits totals book owes) (among : client < CLIENTS)
    (sized : length more ≡ length totals) (sized_too : length further ≡ length book)
    (conit_gap : (p : ℕ) → p < conits
    → get_or more p 0 + get_or book p 0 + owed_by p (owe_of owes client) ≡ get_or totals p 0 + get_or further p 0 + owed_by p owe)
    (turns_gap : get_or more (turns_place conits client) 0 + get_or book (turns_place conits client) 0 + standing (owe_of owes client)
    ≡ get_or totals (turns_place conits client) 0 + get_or further (turns_place conits client) 0 + standing owe)
    (made_gap : get_or more (made_place conits client) 0 + get_or book (made_place conits client) 0 + (owe_of owes client).kept
    ≡ get_or totals (made_place conits client) 0 + get_or further (made_place conits client) 0 + owe.kept)
    (others : (other : ℕ) → other < CLIENTS → other ≢ client
    → (get_or more (turns_place conits other) 0 + get_or book (turns_place conits other) 0 ≡ get_or totals (turns_place conits other) 0 + get_or further (turns_place conits other) 0)
    × (get_or more (made_place conits other) 0 + get_or book (made_place conits other) 0 ≡ get_or totals (made_place conits other) 0 + get_or further (made_place conits other) 0)
    × (get_or further (doubt_place conits other) 0 ≡ get_or book (doubt_place conits other) 0))
    (certain : get_or further (doubt_place conits client) 0 ≡ 0 → (owe.stands ≡ false) × (owe.amount ≡ None))
    (on : owe.amount ≢ None → owe.conit < conits) where
  within : client < length owes
  within = omega (arith, booked.owes_sized, among)

  abbrev later : List Owe
  later = set owes client owe

  pub IsBooked-owed : IsBooked conits more further (set owes client owe)
  IsBooked-owed = record {
    totals_sized = sized ∙ booked.totals_sized;
    book_sized = sized_too ∙ booked.book_sized;
    owes_sized = length-set owes client owe ∙ booked.owes_sized;
    amounts = λ conit inside. omega (arith, conit_gap conit inside, booked.amounts conit inside, owed_on-set owes client conit owe within);
    turns = λ other inside. ⊎_elim
        (λ (same : other ≡ client).
        let now = ap standing (ap (owe_of later) same ∙ owe_of-set owes client owe within) in
        let one = ap (λ k. get_or more (turns_place conits k) 0) same in
        let two = ap (λ k. get_or further (turns_place conits k) 0) same in
        omega (arith, now, one, two, turns_gap, booked.turns client among))
        (λ (apart : other ≡ client → ⊥).
        let now = ap standing (owe_of-other owes client other owe apart) in
        omega (arith, now, (others other inside apart).0, booked.turns other inside))
        (cases_eq other client);
    made = λ other inside. ⊎_elim
        (λ (same : other ≡ client).
        let now = ap (λ (o : Owe). o.kept) (ap (owe_of later) same ∙ owe_of-set owes client owe within) in
        let one = ap (λ k. get_or more (made_place conits k) 0) same in
        let two = ap (λ k. get_or further (made_place conits k) 0) same in
        omega (arith, now, one, two, made_gap, booked.made client among))
        (λ (apart : other ≡ client → ⊥).
        let now = ap (λ (o : Owe). o.kept) (owe_of-other owes client other owe apart) in
        omega (arith, now, (others other inside apart).1, booked.made other inside))
        (cases_eq other client);
    certain = λ other inside none. ⊎_elim
        (λ (same : other ≡ client).
        subst (λ (o : Owe). (o.stands ≡ false) × (o.amount ≡ None)) (sym (ap (owe_of later) same ∙ owe_of-set owes client owe within))
        (certain (ap (λ k. get_or further (doubt_place conits k) 0) (sym same) ∙ none)))
        (λ (apart : other ≡ client → ⊥).
        subst (λ (o : Owe). (o.stands ≡ false) × (o.amount ≡ None)) (sym (owe_of-other owes client other owe apart))
        (booked.certain other inside (sym (others other inside apart).2 ∙ none)))
        (cases_eq other client);
    within = λ other inside. ⊎_elim
        (λ (same : other ≡ client).
        subst (λ (o : Owe). o.amount ≢ None → o.conit < conits) (sym (ap (owe_of later) same ∙ owe_of-set owes client owe within)) on)
        (λ (apart : other ≡ client → ⊥).
        subst (λ (o : Owe). o.amount ≢ None → o.conit < conits) (sym (owe_of-other owes client other owe apart)) (booked.within other inside))
        (cases_eq other client);
  }

-- of a conit an answered call counts nothing by itself
pub counted-conit : (conits client conit : ℕ) (book : List ℕ)
    → conit < conits
    → get_or (one_more_at (made_place conits client) (one_more_at (turns_place conits client) book)) conit 0 ≡ get_or book conit 0
counted-conit conits client conit book here =
    let turned = one_more_at (turns_place conits client) book in
    get_or-set_other turned (made_place conits client) conit (get_or turned (made_place conits client) 0 + 1) 0 (λ same. absurd (omega (arith, same, here)))
    ∙ get_or-set_other book (turns_place conits client) conit (get_or book (turns_place conits client) 0 + 1) 0 (λ same. absurd (omega (arith, same, here)))

-- an answered call of a client, counted on both sides, where what is out on its conit goes as far as what is reserved there
pub booked-call : (conits client conit number told : ℕ) (totals book : List ℕ) (owes : List Owe)
    → IsBooked conits totals book owes
    → client < CLIENTS
    → conit < conits
    → number + get_or book conit 0 ≡ get_or totals conit 0 + told
    → IsBooked conits (set (one_more_at (made_place conits client) (one_more_at (turns_place conits client) totals)) conit number)
    (set (one_more_at (made_place conits client) (one_more_at (turns_place conits client) book)) conit told) owes
booked-call conits client conit number told totals book owes booked among here as_far =
    let turned = one_more_at (turns_place conits client) totals in
    let turned_too = one_more_at (turns_place conits client) book in
    let counted = one_more_at (made_place conits client) turned in
    let counted_too = one_more_at (made_place conits client) turned_too in
    let size = length-set totals (turns_place conits client) (get_or totals (turns_place conits client) 0 + 1) in
    let size_too = length-set book (turns_place conits client) (get_or book (turns_place conits client) 0 + 1) in
    let sizes = length-set turned (made_place conits client) (get_or turned (made_place conits client) 0 + 1) in
    let sizes_too = length-set turned_too (made_place conits client) (get_or turned_too (made_place conits client) 0 + 1) in
    let bound = conits + 2 * CLIENTS in
    let one = gap-more bound (turns_place conits client) totals book (omega (arith, booked.totals_sized, among)) (omega (arith, booked.book_sized, among)) in
    let two = gap-more bound (made_place conits client) turned turned_too (omega (arith, size, booked.totals_sized, among)) (omega (arith, size_too, booked.book_sized, among)) in
    let three = gap-set bound conit number told counted counted_too (omega (arith, sizes, size, booked.totals_sized, here)) (omega (arith, sizes_too, size_too, booked.book_sized, here))
    (omega (arith, as_far, counted-conit conits client conit totals here, counted-conit conits client conit book here)) in
    IsBooked-gap conits totals book (set counted conit number) (set counted_too conit told) owes booked
    (length-set counted conit number ∙ sizes ∙ size) (length-set counted_too conit told ∙ sizes_too ∙ size_too)
    (gap-trans bound totals book counted counted_too (set counted conit number) (set counted_too conit told) (gap-trans bound totals book turned turned_too counted counted_too one two) three)
    (λ other inside. get_or-set_other counted_too conit (doubt_place conits other) told 0 (λ same. absurd (omega (arith, same, here))) ∙ elsewhere_far book other inside)
  where
    elsewhere_far : (list : List ℕ) (other : ℕ)
        → other < CLIENTS
        → get_or (one_more_at (made_place conits client) (one_more_at (turns_place conits client) list)) (doubt_place conits other) 0 ≡ get_or list (doubt_place conits other) 0
    elsewhere_far list other inside =
        get_or-set_other (one_more_at (turns_place conits client) list) (made_place conits client) (doubt_place conits other) _ 0 (λ same. absurd (omega (arith, same, among)))
        ∙ get_or-set_other list (turns_place conits client) (doubt_place conits other) _ 0 (λ same. absurd (omega (arith, same, among)))

-- any other entry, made for a client
pub booked-entry : (conits client : ℕ) (totals book : List ℕ) (owes : List Owe)
    → IsBooked conits totals book owes
    → client < CLIENTS
    → IsBooked conits (one_more_at (made_place conits client) totals) (one_more_at (made_place conits client) book) owes
booked-entry conits client totals book owes booked among =
    let place = made_place conits client in
    IsBooked-gap conits totals book (one_more_at place totals) (one_more_at place book) owes booked
    (length-set totals place (get_or totals place 0 + 1)) (length-set book place (get_or book place 0 + 1))
    (gap-more (conits + 2 * CLIENTS) place totals book (omega (arith, booked.totals_sized, among)) (omega (arith, booked.book_sized, among)))
    (λ other inside. get_or-set_other book place (doubt_place conits other) (get_or book place 0 + 1) 0 (λ same. absurd (omega (arith, same, among))))

-- a mark behind turns and entries, which is no doubt
pub booked-mark : (conits place number : ℕ) (totals book : List ℕ) (owes : List Owe)
    → IsBooked conits totals book owes
    → conits + 2 * CLIENTS ≤ place
    → place < conits + 4 * CLIENTS
    → IsBooked conits totals (set book place number) owes
booked-mark conits place number totals book owes booked past before =
    IsBooked-gap conits totals book totals (set book place number) owes booked refl (length-set book place number)
    (λ p within. omega (arith, get_or-set_other book place p number 0 (λ same. absurd (omega (arith, same, within, past)))))
    (λ other inside. get_or-set_other book place (doubt_place conits other) number 0 (λ same. absurd (omega (arith, same, before))))

-- what is owed stands on its own conit alone
pub owed_by-here : (owe : Owe) → owed_by owe.conit owe ≡ amount_in owe.amount
owed_by-here owe = ap (λ (b : Bool). cond b (amount_in owe.amount) 0) (eq-eqb owe.conit owe.conit refl)

pub owed_by-else : (owe : Owe) (conit : ℕ) → owe.conit ≢ conit → owed_by conit owe ≡ 0
owed_by-else owe conit apart = ap (λ (b : Bool). cond b (amount_in owe.amount) 0) (ne_eqb owe.conit conit apart)

pub owed_by-nothing : (owe : Owe) (conit : ℕ) → owe.amount ≡ None → owed_by conit owe ≡ 0
owed_by-nothing owe conit none =
    ⊎_elim (λ (same : owe.conit ≡ conit). ap (λ k. owed_by k owe) (sym same) ∙ owed_by-here owe ∙ ap amount_in none) (owed_by-else owe conit) (cases_eq owe.conit conit)

standing-not : (owe : Owe) → owe.stands ≡ false → standing owe ≡ 0
standing-not owe stood = ap (λ (b : Bool). let n : ℕ = cond b 1 0 in n) stood

-- a call whose append failed: its client is in doubt, and an amount is out no more
module _ (conits client conit number faults : ℕ) (lost : Option ℕ) (totals book : List ℕ) (owes : List Owe) (booked : IsBooked conits totals book owes) (among : client < CLIENTS)
    (here : conit < conits) (past : conits + 2 * CLIENTS ≤ faults) (before : faults < conits + 4 * CLIENTS)
    (sure : get_or book (doubt_place conits client) 0 ≡ 0) (enough : amount_in lost ≤ get_or book conit 0) where
  abbrev marked : List ℕ
  marked = set book faults number

  abbrev paid : List ℕ
  paid = less_at conit (amount_in lost) marked

  abbrev book_failed : List ℕ
  book_failed = one_more_at (doubt_place conits client) paid

  abbrev owe_failed : Owe
  owe_failed = doubted_owe (owe_of owes client) conit lost

  size_marked : length marked ≡ length book
  size_marked = length-set book faults number

  size_paid : length paid ≡ length book
  size_paid = length-set marked conit (get_or marked conit 0 - amount_in lost) ∙ size_marked

  failed-else : (p : ℕ) → p ≢ conit → p ≢ doubt_place conits client → p ≢ faults → get_or book_failed p 0 ≡ get_or book p 0
  failed-else p not_conit not_doubt not_faults =
      get_or-set_other paid (doubt_place conits client) p (get_or paid (doubt_place conits client) 0 + 1) 0 not_doubt
      ∙ get_or-set_other marked conit p (get_or marked conit 0 - amount_in lost) 0 not_conit
      ∙ get_or-set_other book faults p number 0 not_faults

  failed-conit : get_or book_failed conit 0 ≡ get_or book conit 0 - amount_in lost
  failed-conit =
      get_or-set_other paid (doubt_place conits client) conit (get_or paid (doubt_place conits client) 0 + 1) 0 (λ same. absurd (omega (arith, same, here)))
      ∙ get_or-set_same marked conit (get_or marked conit 0 - amount_in lost) 0 (omega (arith, size_marked, booked.book_sized, here))
      ∙ ap (λ n. n - amount_in lost) (get_or-set_other book faults conit number 0 (λ same. absurd (omega (arith, same, here, past))))

  pub failed-doubt : get_or book_failed (doubt_place conits client) 0 ≡ get_or paid (doubt_place conits client) 0 + 1
  failed-doubt =
      get_or-set_same paid (doubt_place conits client) (get_or paid (doubt_place conits client) 0 + 1) 0 (omega (arith, size_paid, booked.book_sized, among))

  pub booked-failed : IsBooked conits totals (one_more_at (doubt_place conits client) (less_at conit (amount_in lost) (set book faults number)))
      (set owes client (doubted_owe (owe_of owes client) conit lost))
  booked-failed =
      let sure_of = booked.certain client among sure in
      IsBooked-owed conits totals book totals book_failed owes client owe_failed booked among refl
      (length-set paid (doubt_place conits client) (get_or paid (doubt_place conits client) 0 + 1) ∙ size_paid)
      (λ p inside. ⊎_elim
      (λ (same : p ≡ conit).
      let old = owed_by-nothing (owe_of owes client) p sure_of.1 in
      let new = ap (λ k. owed_by k owe_failed) same ∙ owed_by-here owe_failed in
      let now = ap (λ k. get_or book_failed k 0) same ∙ failed-conit in
      let was = ap (λ k. get_or book k 0) same in
      omega (arith, old, new, now, was, enough))
      (λ (apart : p ≡ conit → ⊥).
      let old = owed_by-nothing (owe_of owes client) p sure_of.1 in
      let new = owed_by-else owe_failed p (λ same. apart (sym same)) in
      omega (arith, old, new, failed-else p apart (λ same. absurd (omega (arith, same, inside))) (λ same. absurd (omega (arith, same, inside, past)))))
      (cases_eq p conit))
      (omega (
        arith,
        standing-not (owe_of owes client) sure_of.0,
        failed-else (turns_place conits client) (λ same. absurd (omega (arith, same, here))) (λ same. absurd (omega (arith, same))) (λ same. absurd (omega (arith, same, among, past))),
      ))
      (omega (arith, failed-else (made_place conits client) (λ same. absurd (omega (arith, same, here))) (λ same. absurd (omega (arith, same))) (λ same. absurd (omega (arith, same, among, past)))))
      (λ other inside apart. (
        omega (arith, failed-else (turns_place conits other) (λ same. absurd (omega (arith, same, here))) (λ same. absurd (omega (arith, same, inside))) (λ same. absurd (omega (arith, same, inside, past)))),
        omega (arith, failed-else (made_place conits other) (λ same. absurd (omega (arith, same, here))) (λ same. absurd (omega (arith, same, inside))) (λ same. absurd (omega (arith, same, inside, past)))),
        failed-else (doubt_place conits other) (λ same. absurd (omega (arith, same, here))) (λ same. apart (omega (arith, same))) (λ same. absurd (omega (arith, same, before))),
      ))
      (λ none. absurd (omega (arith, none, failed-doubt)))
      (λ some. here)

-- A call in doubt that a restart found and drew: it stands, and its client has yet to resume it.
module _ (conits client conit number : ℕ) (lost amount : Option ℕ) (totals book : List ℕ) (owes : List Owe) (booked : IsBooked conits totals book owes) (among : client < CLIENTS)
    (here : conit < conits) (in_doubt : get_or book (doubt_place conits client) 0 ≢ 0) (owed : owe_of owes client ≡ doubted_owe (owe_of owes client) conit lost)
    (as_far : number + amount_in lost ≡ get_or totals conit 0 + amount_in amount) where
  abbrev turned : List ℕ
  turned = one_more_at (turns_place conits client) totals

  abbrev counted : List ℕ
  counted = one_more_at (made_place conits client) turned

  abbrev totals_found : List ℕ
  totals_found = set counted conit number

  abbrev owe_found : Owe
  owe_found = record { stands = true; conit = (owe_of owes client).conit; amount = amount; kept = (owe_of owes client).kept + 1 }

  on_conit : (owe_of owes client).conit ≡ conit
  on_conit = ap (λ (o : Owe). o.conit) owed

  found-size : length turned ≡ length totals
  found-size = length-set totals (turns_place conits client) (get_or totals (turns_place conits client) 0 + 1)

  found-sizes : length counted ≡ length totals
  found-sizes = length-set turned (made_place conits client) (get_or turned (made_place conits client) 0 + 1) ∙ found-size

  found-else : (p : ℕ) → p ≢ conit → p ≢ made_place conits client → p ≢ turns_place conits client → get_or totals_found p 0 ≡ get_or totals p 0
  found-else p not_conit not_made not_turns =
      get_or-set_other counted conit p number 0 not_conit
      ∙ get_or-set_other turned (made_place conits client) p (get_or turned (made_place conits client) 0 + 1) 0 not_made
      ∙ get_or-set_other totals (turns_place conits client) p (get_or totals (turns_place conits client) 0 + 1) 0 not_turns

  found-turns : get_or totals_found (turns_place conits client) 0 ≡ get_or totals (turns_place conits client) 0 + 1
  found-turns =
      get_or-set_other counted conit (turns_place conits client) number 0 (λ same. absurd (omega (arith, same, here)))
      ∙ get_or-set_other turned (made_place conits client) (turns_place conits client) (get_or turned (made_place conits client) 0 + 1) 0 (λ same. absurd (omega (arith, same)))
      ∙ get_or-set_same totals (turns_place conits client) (get_or totals (turns_place conits client) 0 + 1) 0 (omega (arith, booked.totals_sized, among))

  found-made : get_or totals_found (made_place conits client) 0 ≡ get_or totals (made_place conits client) 0 + 1
  found-made =
      get_or-set_other counted conit (made_place conits client) number 0 (λ same. absurd (omega (arith, same, here)))
      ∙ get_or-set_same turned (made_place conits client) (get_or turned (made_place conits client) 0 + 1) 0 (omega (arith, found-size, booked.totals_sized, among))
      ∙ ap (λ n. n + 1) (get_or-set_other totals (turns_place conits client) (made_place conits client) (get_or totals (turns_place conits client) 0 + 1) 0 (λ same. absurd (omega (arith, same))))

  pub booked-found : IsBooked conits (set (one_more_at (made_place conits client) (one_more_at (turns_place conits client) totals)) conit number) book
      (set owes client (record { stands = true; conit = (owe_of owes client).conit; amount = amount; kept = (owe_of owes client).kept + 1 }))
  booked-found =
      IsBooked-owed conits totals book totals_found book owes client owe_found booked among (length-set counted conit number ∙ found-sizes) refl
      (λ p inside. ⊎_elim
      (λ (same : p ≡ conit).
      let now = ap (λ k. get_or totals_found k 0) same ∙ get_or-set_same counted conit number 0 (omega (arith, found-sizes, booked.totals_sized, here)) in
      let was = ap (λ k. get_or totals k 0) same in
      let old = ap (λ k. owed_by k (owe_of owes client)) (same ∙ sym on_conit) ∙ owed_by-here (owe_of owes client) ∙ ap (λ (o : Owe). amount_in o.amount) owed in
      let new = ap (λ k. owed_by k owe_found) (same ∙ sym on_conit) ∙ owed_by-here owe_found in
      omega (arith, now, was, old, new, as_far))
      (λ (apart : p ≡ conit → ⊥).
      let old = owed_by-else (owe_of owes client) p (λ same. apart (sym same ∙ on_conit)) in
      let new = owed_by-else owe_found p (λ same. apart (sym same ∙ on_conit)) in
      omega (arith, old, new, found-else p apart (λ same. absurd (omega (arith, same, inside))) (λ same. absurd (omega (arith, same, inside)))))
      (cases_eq p conit))
      (omega (arith, standing-not (owe_of owes client) (ap (λ (o : Owe). o.stands) owed), found-turns))
      (omega (arith, found-made))
      (λ other inside apart. (
        omega (arith, found-else (turns_place conits other) (λ same. absurd (omega (arith, same, here))) (λ same. absurd (omega (arith, same, inside))) (λ same. apart (omega (arith, same)))),
        omega (arith, found-else (made_place conits other) (λ same. absurd (omega (arith, same, here))) (λ same. apart (omega (arith, same))) (λ same. absurd (omega (arith, same, among)))),
        refl,
      ))
      (λ none. absurd (in_doubt none))
      (λ some. omega (arith, on_conit, here))

-- an entry in doubt that is no call, found and drawn: one more is kept for a client
module _ (conits client : ℕ) (totals book : List ℕ) (owes : List Owe) (booked : IsBooked conits totals book owes) (among : client < CLIENTS) where
  abbrev made : List ℕ
  made = one_more_at (made_place conits client) totals

  abbrev owe_kept : Owe
  owe_kept = record (owe_of owes client) { kept = (owe_of owes client).kept + 1 }

  made-else : (p : ℕ) → p ≢ made_place conits client → get_or made p 0 ≡ get_or totals p 0
  made-else p apart = get_or-set_other totals (made_place conits client) p (get_or totals (made_place conits client) 0 + 1) 0 apart

  pub booked-kept : IsBooked conits (one_more_at (made_place conits client) totals) book (set owes client (record (owe_of owes client) { kept = (owe_of owes client).kept + 1 }))
  booked-kept =
      IsBooked-owed conits totals book made book owes client owe_kept booked among (length-set totals (made_place conits client) (get_or totals (made_place conits client) 0 + 1)) refl
      (λ p inside. ap (λ n. n + get_or book p 0 + owed_by p (owe_of owes client)) (made-else p (λ same. absurd (omega (arith, same, inside)))))
      (ap (λ n. n + get_or book (turns_place conits client) 0 + standing (owe_of owes client)) (made-else (turns_place conits client) (λ same. absurd (omega (arith, same)))))
      (omega (arith, get_or-set_same totals (made_place conits client) (get_or totals (made_place conits client) 0 + 1) 0 (omega (arith, booked.totals_sized, among))))
      (λ other inside apart. (
        omega (arith, made-else (turns_place conits other) (λ same. absurd (omega (arith, same, inside)))),
        omega (arith, made-else (made_place conits other) (λ same. apart (omega (arith, same)))),
        refl,
      ))
      (booked.certain client among)
      (booked.within client among)

-- where no amount is owed, the book is the same with it
pub more_at-nothing : (owe : Owe) (book : List ℕ) → owe.amount ≡ None → more_at owe.conit (amount_in owe.amount) book ≡ book
more_at-nothing owe book none =
    let same : get_or book owe.conit 0 + amount_in owe.amount ≡ get_or book owe.conit 0 = omega (arith, ap amount_in none) in
    ap (λ n. set book owe.conit n) same ∙ set-get_or book owe.conit 0

-- A client that resumes: what it is owed goes out to it, and it is in doubt no more.
module _ (conits client : ℕ) (totals book : List ℕ) (owes : List Owe) (booked : IsBooked conits totals book owes) (among : client < CLIENTS)
    (here : (owe_of owes client).amount ≢ None → (owe_of owes client).conit < conits) where
  abbrev owe : Owe
  owe = owe_of owes client

  abbrev paid_out : List ℕ
  paid_out = more_at owe.conit (amount_in owe.amount) book

  abbrev turned_out : List ℕ
  turned_out = more_at (turns_place conits client) (standing owe) paid_out

  abbrev book_resumed : List ℕ
  book_resumed = less_at (doubt_place conits client) 1 turned_out

  size_out : length paid_out ≡ length book
  size_out = length-set book owe.conit (get_or book owe.conit 0 + amount_in owe.amount)

  size_turned : length turned_out ≡ length book
  size_turned = length-set paid_out (turns_place conits client) (get_or paid_out (turns_place conits client) 0 + standing owe) ∙ size_out

  out-owed : (amount : Option ℕ) → owe.amount ≡ amount → (p : ℕ) → get_or paid_out p 0 ≡ get_or book p 0 + owed_by p owe
  out-owed None none p = omega (arith, ap (λ (l : List ℕ). get_or l p 0) (more_at-nothing owe book none), owed_by-nothing owe p none)
  out-owed (Some amount) some p =
      let inside : owe.conit < conits = here (λ none. cc) in
      ⊎_elim
      (λ (same : p ≡ owe.conit).
      let now = ap (λ k. get_or paid_out k 0) same ∙ get_or-set_same book owe.conit (get_or book owe.conit 0 + amount_in owe.amount) 0 (omega (arith, booked.book_sized, inside)) in
      let was = ap (λ k. get_or book k 0) same in
      let due = ap (λ k. owed_by k owe) same ∙ owed_by-here owe in
      omega (arith, now, was, due))
      (λ (apart : p ≡ owe.conit → ⊥).
      omega (arith, owed_by-else owe p (λ same. apart (sym same)), get_or-set_other book owe.conit p (get_or book owe.conit 0 + amount_in owe.amount) 0 apart))
      (cases_eq p owe.conit)

  out-far : (amount : Option ℕ) → owe.amount ≡ amount → (p : ℕ) → conits ≤ p → get_or paid_out p 0 ≡ get_or book p 0
  out-far None none p past = omega (arith, out-owed None none p, owed_by-nothing owe p none)
  out-far (Some amount) some p past =
      let inside : owe.conit < conits = here (λ none. cc) in
      get_or-set_other book owe.conit p (get_or book owe.conit 0 + amount_in owe.amount) 0 (λ same. absurd (omega (arith, same, inside, past)))

  resumed-else : (p : ℕ) → p ≢ doubt_place conits client → p ≢ turns_place conits client → get_or book_resumed p 0 ≡ get_or paid_out p 0
  resumed-else p not_doubt not_turns =
      get_or-set_other turned_out (doubt_place conits client) p (get_or turned_out (doubt_place conits client) 0 - 1) 0 not_doubt
      ∙ get_or-set_other paid_out (turns_place conits client) p (get_or paid_out (turns_place conits client) 0 + standing owe) 0 not_turns

  resumed-far : (p : ℕ) → conits ≤ p → p ≢ doubt_place conits client → p ≢ turns_place conits client → get_or book_resumed p 0 ≡ get_or book p 0
  resumed-far p past not_doubt not_turns = resumed-else p not_doubt not_turns ∙ out-far owe.amount refl p past

  resumed-turns : get_or book_resumed (turns_place conits client) 0 ≡ get_or book (turns_place conits client) 0 + standing owe
  resumed-turns =
      get_or-set_other turned_out (doubt_place conits client) (turns_place conits client) (get_or turned_out (doubt_place conits client) 0 - 1) 0 (λ same. absurd (omega (arith, same)))
      ∙ get_or-set_same paid_out (turns_place conits client) (get_or paid_out (turns_place conits client) 0 + standing owe) 0 (omega (arith, size_out, booked.book_sized, among))
      ∙ ap (λ n. n + standing owe) (out-far owe.amount refl (turns_place conits client) (omega arith))

  pub booked-resumed : IsBooked conits totals (resumed_book conits client (owe_of owes client) book) (set owes client (resumed_owe (owe_of owes client)))
  booked-resumed =
      IsBooked-owed conits totals book totals book_resumed owes client (resumed_owe owe) booked among refl
      (length-set turned_out (doubt_place conits client) (get_or turned_out (doubt_place conits client) 0 - 1) ∙ size_turned)
      (λ p inside.
      omega (arith, resumed-else p (λ same. absurd (omega (arith, same, inside))) (λ same. absurd (omega (arith, same, inside))), out-owed owe.amount refl p, owed_by-nothing (resumed_owe owe) p refl))
      (omega (arith, resumed-turns))
      (omega (arith, resumed-far (made_place conits client) (omega arith) (λ same. absurd (omega (arith, same))) (λ same. absurd (omega (arith, same)))))
      (λ other inside apart. (
        omega (arith, resumed-far (turns_place conits other) (omega arith) (λ same. absurd (omega (arith, same, inside))) (λ same. apart (omega (arith, same)))),
        omega (arith, resumed-far (made_place conits other) (omega arith) (λ same. absurd (omega (arith, same, inside))) (λ same. absurd (omega (arith, same, among)))),
        resumed-far (doubt_place conits other) (omega arith) (λ same. apart (omega (arith, same))) (λ same. absurd (omega (arith, same, among))),
      ))
      (λ none. (refl, refl))
      (λ some. absurd (some refl))

-- what is out is no more than the totals
pub book_le-conit : {conits : ℕ} {totals book : List ℕ} {owes : List Owe} (conit : ℕ) → IsBooked conits totals book owes → conit < conits → get_or book conit 0 ≤ get_or totals conit 0
book_le-conit conit booked here = omega (arith, booked.amounts conit here)

pub book_le-turns : {conits : ℕ} {totals book : List ℕ} {owes : List Owe} (client : ℕ)
    → IsBooked conits totals book owes
    → client < CLIENTS
    → get_or book (turns_place conits client) 0 ≤ get_or totals (turns_place conits client) 0
book_le-turns client booked among = omega (arith, booked.turns client among)

pub book_le-made : {conits : ℕ} {totals book : List ℕ} {owes : List Owe} (client : ℕ)
    → IsBooked conits totals book owes
    → client < CLIENTS
    → get_or book (made_place conits client) 0 ≤ get_or totals (made_place conits client) 0
book_le-made client booked among = omega (arith, booked.made client among)

-- and of the turns of a client that isn't in doubt it is just that
pub turns-agree : {conits : ℕ} {totals book : List ℕ} {owes : List Owe} (client : ℕ)
    → IsBooked conits totals book owes
    → client < CLIENTS
    → get_or book (doubt_place conits client) 0 ≡ 0
    → get_or totals (turns_place conits client) 0 ≡ get_or book (turns_place conits client) 0
turns-agree {owes = owes} client booked among sure =
    omega (arith, booked.turns client among, standing-not (owe_of owes client) (booked.certain client among sure).0)
