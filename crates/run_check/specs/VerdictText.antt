-- The line that says what was found of a record.
use Rattle.std.specs.Prelude.{ℕ, List, [], ◌∷◌, ◌++◌, map, codes, decimal}
use Rattle.run_model.specs.Text.{line_text, reply_tokens}
use Rattle.run_model.specs.declared.cause.Cause.{Cause}
use Rattle.run_model.specs.declared.cause.Cause.TheVariants.{Full, Moment, Number, First, NoSend, NotAddressed, Home, Free, Reply}
use Rattle.run_check.specs.declared.verdict.Summary.{Summary}
use Rattle.run_check.specs.declared.verdict.Verdict.{Verdict}
use Rattle.run_check.specs.declared.verdict.Verdict.TheVariants.{Run, Bad}

-- a cause: its name, then what was told and what is due
abbrev pub cause_tokens : Cause → List (List ℕ)
cause_tokens (Full replica) = codes "full" ∷ map decimal (replica ∷ [])
cause_tokens (Moment told last) = codes "moment" ∷ map decimal (told ∷ last ∷ [])
cause_tokens (Number told due) = codes "number" ∷ map decimal (told ∷ due ∷ [])
cause_tokens (First origin told due) = codes "first" ∷ map decimal (origin ∷ told ∷ due ∷ [])
cause_tokens (NoSend from number) = codes "no-send" ∷ map decimal (from ∷ number ∷ [])
cause_tokens (NotAddressed to) = codes "not-addressed" ∷ map decimal (to ∷ [])
cause_tokens (Home amount home) = codes "home" ∷ map decimal (amount ∷ home ∷ [])
cause_tokens (Free amount free) = codes "free" ∷ map decimal (amount ∷ free ∷ [])
cause_tokens (Reply told due) = codes "reply" ∷ reply_tokens told ++ codes "|" ∷ reply_tokens due

-- a summary: the number of entries, and each count behind its name
abbrev pub call_counts : Summary → List (List ℕ)
call_counts s =
    decimal s.entries ∷ codes "calls" ∷ decimal s.calls ∷ codes "writes" ∷ decimal s.writes ∷ codes "waits" ∷ decimal s.waits ∷ []

abbrev pub other_counts : Summary → List (List ℕ)
other_counts s =
    codes "sends" ∷ decimal s.sends ∷ codes "takes" ∷ decimal s.takes ∷ codes "lends" ∷ decimal s.lends
    ∷ codes "backs" ∷ decimal s.backs ∷ codes "restarts" ∷ decimal s.restarts ∷ []

abbrev pub summary_tokens : Summary → List (List ℕ)
summary_tokens s = call_counts s ++ other_counts s

abbrev pub verdict_tokens : Verdict → List (List ℕ)
verdict_tokens (Run summary) = codes "run" ∷ summary_tokens summary
verdict_tokens (Bad entry cause) = codes "bad" ∷ decimal entry ∷ cause_tokens cause

-- the line, with its line feed
abbrev pub verdict_text : Verdict → List ℕ
verdict_text verdict = line_text (verdict_tokens verdict) ++ 10 ∷ []
