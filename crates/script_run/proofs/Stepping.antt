-- What a line does is what its entries do, or its comment.
use Rattle.std.proofs.Common.{◌≡◌, ℕ, ◌≤◌, ◌<◌, nat_le, true, false, cond, List, [], ◌∷◌, ◌++◌, length, drop, codes, sym, ap, ap₂, ◌∙◌, subst, append_assoc}
use Rattle.std.proofs.Math.Seq.{drop-append_seam, drop-length}
use Rattle.std.proofs.lemmas.Bool.{le-leb, lt-leb}
use Rattle.std.proofs.lemmas.List.{append-nil}
use Rattle.tact_base.specs.Setup.{Setup}
use Rattle.run_model.specs.Histories.{part_of}
use Rattle.run_model.specs.Loans.{home, free}
use Rattle.run_model.specs.ScriptRuns.{Played, enters, after_line, entries_text, line_comment, act_comments}
use Rattle.run_model.specs.Text.{entry_text}
use Rattle.run_model.specs.declared.entry.Act.TheVariants as act
use Rattle.run_model.specs.declared.entry.Entry.{Entry}
use Rattle.run_model.specs.declared.script_line.Line.{Line}
use Rattle.run_model.specs.declared.script_line.Line.TheVariants as line
use Rattle.script_run.specs.Comments.{refusal_comment}
use Rattle.script_run.specs.Stages.{GoesOnTo, Enters, Steps, setup_in, played_in}
use Rattle.script_run.specs.declared.stage.Stage.{Stage}

-- the text of entries, one after another
pub entries_text-append : (setup : Setup) (before first second : List Entry)
    → entries_text setup before (first ++ second) ≡ entries_text setup before first ++ entries_text setup (before ++ first) second
entries_text-append setup before [] second = ap (λ (h : List Entry). entries_text setup h second) (sym (append-nil before))
entries_text-append setup before (entry ∷ first) second =
    let longer = before ++ entry ∷ [] in
    let head = entry_text entry ++ 10 ∷ act_comments setup longer entry.replica entry.moment entry.act in
    ap (λ (rest : List ℕ). head ++ rest) (entries_text-append setup longer first second)
    ∙ sym (append_assoc head (entries_text setup longer first) (entries_text setup (longer ++ first) second))
    ∙ ap (λ (h : List Entry). (head ++ entries_text setup longer first) ++ entries_text setup h second) (append_assoc before (entry ∷ []) first)

-- what enters after what entered
pub enters_twice : (old mid new : Stage) (first second : Played) (a b c : List ℕ)
    → Enters old mid first a b
    → Enters mid new second b c
    → Enters old new second a c
enters_twice old mid new first second a b c one two =
    let mid_history : mid.history.items ≡ old.history.items ++ one.made = ap (λ (p : Played). p.history) one.goes.played ∙ one.history in
    record {
      goes = record {
        keeps = two.goes.keeps;
        setup = two.goes.setup ∙ one.goes.setup;
        played = two.goes.played;
        prints = two.goes.prints ∙ one.goes.prints;
      };
      made = one.made ++ two.made;
      history = two.history ∙ ap (λ (h : List Entry). h ++ two.made) mid_history ∙ append_assoc old.history.items one.made two.made;
      text = λ prints.
          two.text (one.goes.prints ∙ prints)
          ∙ ap (λ (text : List ℕ). text ++ entries_text (setup_in mid) mid.history.items two.made) (one.text prints)
          ∙ append_assoc a (entries_text (setup_in old) old.history.items one.made) (entries_text (setup_in mid) mid.history.items two.made)
          ∙ ap (λ (rest : List ℕ). a ++ (entries_text (setup_in old) old.history.items one.made ++ rest))
          (ap₂ (λ (s : Setup) (h : List Entry). entries_text s h two.made) one.goes.setup mid_history)
          ∙ ap (λ (text : List ℕ). a ++ text) (sym (entries_text-append (setup_in old) old.history.items one.made two.made));
    }

-- A step of a stage.
module _ (old new : Stage) (l : Line) (out out' : List ℕ) where
  abbrev setup : Setup
  setup = setup_in old

  abbrev before : Played
  before = played_in old

  -- a line whose entries are made, without a comment
  pub steps_by_entries : line_comment setup old.history.items l ≡ []
      → Enters old new (after_line setup before l) out out'
      → Steps old new l out out'
  steps_by_entries nothing enters =
      let made : drop (length old.history.items) (after_line setup before l).history ≡ enters.made =
      ap (drop (length old.history.items)) enters.history ∙ drop-append_seam old.history.items enters.made in
      record {
        goes = enters.goes;
        text = λ prints.
            enters.text prints
            ∙ ap₂ (λ (c : List ℕ) (more : List Entry). out ++ (c ++ entries_text setup old.history.items more)) (sym nothing) (sym made);
      }

  -- a line that makes nothing, with its comment
  pub steps_by_comment : after_line setup before l ≡ before
      → GoesOnTo old new before
      → (old.prints ≡ true → out' ≡ out ++ line_comment setup old.history.items l)
      → Steps old new l out out'
  steps_by_comment same goes text =
      let made : drop (length old.history.items) (after_line setup before l).history ≡ [] =
      ap (λ (p : Played). drop (length old.history.items) p.history) same ∙ drop-length old.history.items in
      record {
        goes = record { keeps = goes.keeps; setup = goes.setup; played = goes.played ∙ sym same; prints = goes.prints };
        text = λ prints.
            text prints
            ∙ ap (λ (c : List ℕ). out ++ c) (sym (append-nil (line_comment setup old.history.items l)))
            ∙ ap (λ (more : List Entry). out ++ (line_comment setup old.history.items l ++ entries_text setup old.history.items more)) (sym made);
      }

-- A loan or a return within its limit, and one over it.
module _ (old new : Stage) (owner holder conit amount : ℕ) (out out' : List ℕ) where
  abbrev at_home : ℕ
  at_home = home (setup_in old) owner (part_of old.history.items owner) conit

  abbrev at_hand : ℕ
  at_hand = free (setup_in old) holder (part_of old.history.items holder) owner conit

  abbrev lending_text : List ℕ
  lending_text = refusal_comment (codes "lend") (owner ∷ holder ∷ conit ∷ amount ∷ []) (codes "home") at_home

  abbrev returning_text : List ℕ
  returning_text = refusal_comment (codes "back") (holder ∷ owner ∷ conit ∷ amount ∷ []) (codes "free") at_hand

  abbrev after_lending : Played
  after_lending = enters (played_in old) owner (λ part moment. act.Lend holder conit amount)

  abbrev after_returning : Played
  after_returning = enters (played_in old) holder (λ part moment. act.Back owner conit amount)

  pub lends : amount ≤ at_home
      → Enters old new after_lending out out'
      → Steps old new (line.Lend owner holder conit amount) out out'
  lends within entered =
      let test : nat_le amount at_home ≡ true = le-leb amount at_home within in
      steps_by_entries old new (line.Lend owner holder conit amount) out out'
      (ap (λ yes. cond yes [] lending_text) test)
      (subst (λ yes. Enters old new (cond yes after_lending (played_in old)) out out') (sym test) entered)

  pub lends_not : at_home < amount
      → GoesOnTo old new (played_in old)
      → out' ≡ out ++ lending_text
      → Steps old new (line.Lend owner holder conit amount) out out'
  lends_not over goes text =
      let test : nat_le amount at_home ≡ false = lt-leb amount at_home over in
      steps_by_comment old new (line.Lend owner holder conit amount) out out'
      (ap (λ yes. cond yes after_lending (played_in old)) test) goes
      (λ prints. text ∙ ap (λ yes. out ++ cond yes [] lending_text) (sym test))

  pub gives : amount ≤ at_hand
      → Enters old new after_returning out out'
      → Steps old new (line.Back holder owner conit amount) out out'
  gives within entered =
      let test : nat_le amount at_hand ≡ true = le-leb amount at_hand within in
      steps_by_entries old new (line.Back holder owner conit amount) out out'
      (ap (λ yes. cond yes [] returning_text) test)
      (subst (λ yes. Enters old new (cond yes after_returning (played_in old)) out out') (sym test) entered)

  pub gives_not : at_hand < amount
      → GoesOnTo old new (played_in old)
      → out' ≡ out ++ returning_text
      → Steps old new (line.Back holder owner conit amount) out out'
  gives_not over goes text =
      let test : nat_le amount at_hand ≡ false = lt-leb amount at_hand over in
      steps_by_comment old new (line.Back holder owner conit amount) out out'
      (ap (λ yes. cond yes after_returning (played_in old)) test) goes
      (λ prints. text ∙ ap (λ yes. out ++ cond yes [] returning_text) (sym test))
