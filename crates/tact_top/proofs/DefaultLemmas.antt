-- What a parse finds for the only argument of a command, where it takes one value and has a default.
use Rattle.std.proofs.Common.{zero, suc, ◌≡◌, ◌∙◌, ◌++◌, ◌||◌, ◌<◌, ◌≤◌, ap, ℕ, Bool, true, false, List, [], ◌∷◌, length, is_some, Option, Some, None, refl, sym, subst, inl, inr, arith}
use Rattle.std.specs.List.{All, slice_index_or}
use Rattle.std.specs.Str.{bytes_eq}
use Rattle.std.specs.Prelude.{find, option_map, slice_get}
use Rattle.std.specs.Borrow.{Bor}
use Rattle.std.proofs.lemmas.List.Elements.{All-head, All-nil}
use Rattle.std.proofs.lemmas.Slice.Eq.{bytes_eq-Decides}
use Rattle.clap.specs.declared.builder.action.ArgAction.TheVariants.{Count, Set}
use Rattle.clap.specs.Facts.{args_of, groups_of, Entry, EntryPasses, HasReading, PassesArg, WantsDefault, least_values, parser_of, parser_of_value}
use Rattle.clap.specs.Built.{AddsArg, IsAuto, IsParsedFrom, IsPlain, IsPlainArg}
use Rattle.clap.specs.Matches.{found_of, matched_of, one_text}
use Rattle.clap.specs.Values.{Accepts, read_as, reading_of}
use Rattle.clap.proofs.CallerLemmas.{added_plain, default_present, entry_by_id, same_rules_by_id}
use Rattle.clap.specs.declared.builder.arg.Arg.{Arg}
use Rattle.clap.specs.declared.builder.command.Command.{Command}
use Rattle.clap.specs.declared.builder.command.Command.TheViews.{out-Command}
use Rattle.clap.specs.declared.builder.value_parser.ValueParser.{ValueParser}
use Rattle.clap.specs.declared.builder.value_parser.Reading.{Reading}
use Rattle.clap.specs.declared.parser.matches.ArgMatches.{ArgMatches}
use Rattle.clap.specs.declared.parser.matches.Found.{Found}
use Rattle.clap.specs.declared.parser.matches.MatchedArg.{MatchedArg}

-- an entry with an id is found by it
found_at : (xs : List Entry) (id : List ℕ) (i : ℕ) → i < length xs → ((d : Entry) → bytes_eq (slice_index_or xs i d).0.now id ≡ true)
    → is_some (option_map (λ (e : Entry). e.1) (find (λ (e : Entry). bytes_eq e.0.now id) xs)) ≡ true
found_at [] id i lt at = absurd (omega (arith, lt))
found_at (x ∷ xs) id zero lt at = rw (at x) refl
found_at (x ∷ xs) id (suc i) lt at = go (bytes_eq x.0.now id) refl (found_at xs id i (omega (arith, lt)) at)
  where
    go : (same : Bool) → bytes_eq x.0.now id ≡ same
        → is_some (option_map (λ (e : Entry). e.1) (find (λ (e : Entry). bytes_eq e.0.now id) xs)) ≡ true
        → is_some (option_map (λ (e : Entry). e.1) (find (λ (e : Entry). bytes_eq e.0.now id) (x ∷ xs))) ≡ true
    go true e rest = rw e refl
    go false e rest = rw e rest

-- the first of some texts that all pass
first_reads : (how : Reading) (P : List ℕ → Type 0) (vs : List (Bor (List ℕ))) → 0 < length vs → All (λ v. P v.now) vs
    → (t : List ℕ) × (option_map (λ s. read_as how s.now) (slice_get vs 0) ≡ Some (read_as how t)) × P t
first_reads how P [] lt all = absurd (omega (arith, lt))
first_reads how P (v ∷ vs) lt all = (v.now, refl, All-head (λ v. P v.now) v vs all)

text_at : (f : Found) (id : List ℕ) (x : MatchedArg) (how : Reading) (t : List ℕ) → matched_of f id ≡ Some x → x.reading ≡ how
    → option_map (λ s. read_as how s.now) (slice_get x.vals.items 0) ≡ Some t → one_text f id ≡ Some t
text_at f id x how t found is v = rw (found, is) v

module _ (cmd : Command) (m : ArgMatches) (p : IsParsedFrom cmd m) (plain : IsPlain cmd) (globals : (out-Command cmd).has_globals ≡ false)
    (d : Arg) (lt : 0 < length (args_of cmd))
    (unique : (j : ℕ) (e : Arg) → j < length (args_of cmd)
    → bytes_eq (slice_index_or (args_of cmd) j e).id.now (slice_index_or (args_of cmd) 0 d).id.now ≡ true → j ≡ 0)
    (named : (slice_index_or (args_of cmd) 0 d).id.now ≡ [] → ⊥)
    (own : IsAuto (slice_index_or (args_of cmd) 0 d) → ⊥)
    (set : (slice_index_or (args_of cmd) 0 d).action ≡ Some Set)
    (delim : (slice_index_or (args_of cmd) 0 d).val_delim ≡ None)
    (least : 1 ≤ least_values (slice_index_or (args_of cmd) 0 d))
    (q : ValueParser) (parser : (slice_index_or (args_of cmd) 0 d).value_parser ≡ Some q) where
  no_group : (e : Entry) → e.0.now ≡ (slice_index_or (args_of cmd) 0 d).id.now → EntryPasses p.built e → e.1.is_group ≡ true → ⊥
  no_group e key pass group = elim (pass.3 group) [
    | inl empty ↦ named (sym key ∙ empty)
    | inr some ↦
        let bad : 0 < 0 = rw (p.from.plain plain).1 at some in
        absurd (omega (arith, bad))
  ]

  is_filled : (e : Entry) → e.0.now ≡ (slice_index_or (args_of cmd) 0 d).id.now → EntryPasses p.built e → 0 < length e.1.vals.items
  is_filled e key pass = elim pass.1 [
    | inl group ↦ absurd (no_group e key pass group.0)
    | inr (inl some) ↦ some
    | inr (inr (inl counts)) ↦
        let any = counts.1 in
        let s = same_rules_by_id cmd m p 0 d lt unique own any.0 any.1 any.2 any.3 (rw key at any.4.0) in
        let is_set : any.1.action ≡ Some Set = s.action Set set in
        let bad : Set ≡ Count = rw is_set at any.4.1 in
        cc
    | inr (inr (inr any)) ↦
        let s = same_rules_by_id cmd m p 0 d lt unique own any.0 any.1 any.2 any.3 (rw key at any.4.0) in
        elim any.4.1 [
          | inl none ↦
              let one = s.least set least in
              absurd (omega (arith, one, none))
          | inr has ↦
              let bad : false ≡ true = rw (s.val_delim, delim) at has in
              cc
        ]
  ]

  accepted : (value : List ℕ) → PassesArg p.built (slice_index_or (args_of cmd) 0 d).id.now value
      → Accepts (slice_index_or (args_of cmd) 0 d).ignore_case q value
  accepted value pass =
      let s = same_rules_by_id cmd m p 0 d lt unique own pass.0 pass.1 pass.2 pass.3 pass.4.0 in
      let is_q : parser_of pass.1 ≡ q = ap parser_of_value (s.parser q parser) in
      let as_q : Accepts pass.1.ignore_case q value = subst (λ (w : ValueParser). Accepts pass.1.ignore_case w value) is_q pass.4.1 in
      subst (λ (b : Bool). Accepts b q value) s.ignore_case as_q

  read_by : (r : Reading) → HasReading p.built (slice_index_or (args_of cmd) 0 d).id.now r → r ≡ reading_of q
  read_by r any =
      let s = same_rules_by_id cmd m p 0 d lt unique own any.0 any.1 any.2 any.3 any.4.0 in
      let is_q : parser_of any.1 ≡ q = ap parser_of_value (s.parser q parser) in
      sym any.4.1 ∙ ap reading_of is_q

  read_at : (x : MatchedArg) → matched_of (found_of m) (slice_index_or (args_of cmd) 0 d).id.now ≡ Some x
      → ((e : Entry) × (e.1 ≡ x) × (bytes_eq e.0.now (slice_index_or (args_of cmd) 0 d).id.now ≡ true) × EntryPasses p.built e)
      → (t : List ℕ) × (one_text (found_of m) (slice_index_or (args_of cmd) 0 d).id.now ≡ Some (read_as (reading_of q) t))
      × Accepts (slice_index_or (args_of cmd) 0 d).ignore_case q t
  read_at x found got =
      let id = (slice_index_or (args_of cmd) 0 d).id.now in
      let key : got.0.0.now ≡ id = (bytes_eq-Decides _ _).0 got.2 in
      let pass = got.3 in
      let some : 0 < length x.vals.items = rw got.1 at (is_filled got.0 key pass) in
      let all : All (λ v. PassesArg p.built id v.now) x.vals.items = elim pass.0 [
        | inl group ↦ absurd (no_group got.0 key pass group)
        | inr vals ↦ subst (λ (w : List ℕ). All (λ v. PassesArg p.built w v.now) x.vals.items) key (rw got.1 at vals)
      ] in
      let how : got.0.1.reading ≡ reading_of q = elim pass.4 [
        | inl group ↦ absurd (no_group got.0 key pass group)
        | inr reads ↦ read_by got.0.1.reading (subst (λ (w : List ℕ). HasReading p.built w got.0.1.reading) key reads)
      ] in
      let first = first_reads (reading_of q) (PassesArg p.built id) x.vals.items some all in (
        first.0,
        text_at (found_of m) id x (reading_of q) (read_as (reading_of q) first.0) found (ap (λ (y : MatchedArg). y.reading) (sym got.1) ∙ how) first.1,
        accepted first.0 first.2,
      )

  default_reads : WantsDefault (slice_index_or (args_of cmd) 0 d)
      → (t : List ℕ) × (one_text (found_of m) (slice_index_or (args_of cmd) 0 d).id.now ≡ Some (read_as (reading_of q) t))
      × Accepts (slice_index_or (args_of cmd) 0 d).ignore_case q t
  default_reads wants =
      let id = (slice_index_or (args_of cmd) 0 d).id.now in
      let has = default_present cmd m p globals 0 d lt wants in
      go (matched_of (found_of m) id) refl (found_at (found_of m).entries.items id has.0 has.1 has.2)
    where
      go : (o : Option MatchedArg) → matched_of (found_of m) (slice_index_or (args_of cmd) 0 d).id.now ≡ o
          → is_some (matched_of (found_of m) (slice_index_or (args_of cmd) 0 d).id.now) ≡ true
          → (t : List ℕ) × (one_text (found_of m) (slice_index_or (args_of cmd) 0 d).id.now ≡ Some (read_as (reading_of q) t))
          × Accepts (slice_index_or (args_of cmd) 0 d).ignore_case q t
      go None e some =
          let bad : false ≡ true = rw e at some in
          cc
      go (Some x) e some =
          read_at x e (entry_by_id (EntryPasses p.built) (found_of m).entries.items (slice_index_or (args_of cmd) 0 d).id.now x
          (p.parsed (p.from.globals ∙ globals)).values e)

-- The argument of a command that has no other, with a default, has a text that passed its parser and is read as this says.
pub one_default_read : (start cmd : Command) (a : Arg) (m : ArgMatches) → AddsArg start a cmd
    → args_of start ≡ [] → groups_of start ≡ [] → (out-Command start).has_globals ≡ false
    → IsPlainArg a → a.global ≡ false → WantsDefault a → a.action ≡ Some Set → a.val_delim ≡ None → 1 ≤ least_values a
    → (a.id.now ≡ [] → ⊥) → (IsAuto a → ⊥) → (q : ValueParser) → a.value_parser ≡ Some q → IsParsedFrom cmd m
    → (t : List ℕ) × (one_text (found_of m) a.id.now ≡ Some (read_as (reading_of q) t)) × Accepts a.ignore_case q t
one_default_read start cmd a m added args groups globals plain global wants set delim least named own q parser p =
    let list : args_of cmd ≡ added.arg ∷ [] = added.args ∙ ap (λ l. l ++ added.arg ∷ []) args in
    let start_plain : IsPlain start = (subst (All IsPlainArg) (sym args) (All-nil IsPlainArg), groups) in
    let plain2 : IsPlain cmd = added_plain start cmd a added start_plain plain in
    let elem : slice_index_or (args_of cmd) 0 a ≡ added.arg = ap (λ l. slice_index_or l 0 a) list in
    let lt : 0 < length (args_of cmd) = subst (λ l. 0 < length l) (sym list) (omega arith) in
    let no_globals : (out-Command cmd).has_globals ≡ false = added.globals ∙ (ap (λ b. b || a.global) globals ∙ ap (λ b. false || b) global) in
    let same_id : (slice_index_or (args_of cmd) 0 a).id ≡ a.id = ap (λ x. x.id) elem ∙ added.rules.id in
    let same_now : (slice_index_or (args_of cmd) 0 a).id.now ≡ a.id.now = ap (λ x. x.now) same_id in
    let is_set : (slice_index_or (args_of cmd) 0 a).action ≡ Some Set = ap (λ x. x.action) elem ∙ added.rules.action Set set in
    let no_delim : (slice_index_or (args_of cmd) 0 a).val_delim ≡ None = ap (λ x. x.val_delim) elem ∙ (added.rules.val_delim ∙ delim) in
    let some_value : 1 ≤ least_values (slice_index_or (args_of cmd) 0 a) = subst (λ x. 1 ≤ least_values x) (sym elem) (added.rules.least set least) in
    let same_parser : (slice_index_or (args_of cmd) 0 a).value_parser ≡ Some q = ap (λ x. x.value_parser) elem ∙ added.rules.parser q parser in
    let same_case : (slice_index_or (args_of cmd) 0 a).ignore_case ≡ a.ignore_case = ap (λ x. x.ignore_case) elem ∙ added.rules.ignore_case in
    let defaults : WantsDefault added.arg = (added.rules.ifs ∙ wants.0, subst (λ l. 0 < length l) (sym (added.rules.defaults wants.1)) wants.1) in
    let only : (j : ℕ) (e : Arg) → j < length (args_of cmd) → bytes_eq (slice_index_or (args_of cmd) j e).id.now (slice_index_or (args_of cmd) 0 a).id.now ≡ true → j ≡ 0 =
    λ j e low same. let one : j < 1 = subst (λ l. j < length l) list low in omega (arith, one) in
    let got = default_reads cmd m p plain2 no_globals a lt only
    (λ empty. named (sym same_now ∙ empty))
    (λ auto. own (elim auto [ inl h ↦ inl (sym same_now ∙ h) | inr h ↦ inr (sym same_now ∙ h) ]))
    is_set no_delim some_value q same_parser (subst WantsDefault (sym elem) defaults) in (
      got.0,
      subst (λ (w : List ℕ). one_text (found_of m) w ≡ Some (read_as (reading_of q) got.0)) same_now got.1,
      subst (λ (b : Bool). Accepts b q got.0) same_case got.2,
    )
