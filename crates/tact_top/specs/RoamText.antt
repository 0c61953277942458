-- The summary of drawn visits: the counts of what clients and replicas did, and each pass at the end.
use Rattle.std.specs.Prelude.{ℕ, List, [], ◌∷◌, ◌++◌, codes, count_by, decimal, length, map}
use Rattle.std.specs.List.{flat_map, range_with_len}
use Rattle.run_model.specs.Text.{line_text}
use Rattle.session_guard.specs.Passes.{PassState}
use Rattle.session_guard.specs.Roaming.{Roamed, pass_at, roamed}
use Rattle.drawn_visits.specs.DrawnVisits.{drawn_steps, four, is_behind}
use Rattle.tact_top.specs.DrillText.{count_of, is_done, is_heavy, is_value, is_wait, message_counts}

-- the counts of visits, by what they came to, each behind its name
abbrev pub visit_counts : Roamed → List (List ℕ)
visit_counts made =
    codes "behind" ∷ decimal (count_by is_behind made.outcomes) ∷ codes "done" ∷ decimal (count_of is_done made.entries)
    ∷ codes "values" ∷ decimal (count_of is_value made.entries) ∷ codes "waits" ∷ decimal (count_of is_wait made.entries)
    ∷ codes "heavy" ∷ decimal (count_of is_heavy made.entries) ∷ []

abbrev pub roam_tokens : ℕ → Roamed → List (List ℕ)
roam_tokens number made = decimal number ∷ codes "entries" ∷ decimal (length made.entries) ∷ visit_counts made ++ message_counts made.entries

-- their line, with its line feed
abbrev pub visits_text : ℕ → Roamed → List ℕ
visits_text number made = line_text (codes "roam" ∷ roam_tokens number made) ++ 10 ∷ []

-- the line of a pass
abbrev pub pass_tokens : PassState → ℕ → List (List ℕ)
pass_tokens pass number = decimal number ∷ (codes "reads" ∷ map decimal pass.reads) ++ (codes "writes" ∷ map decimal pass.writes)

abbrev pub pass_text : PassState → ℕ → List ℕ
pass_text pass number = line_text (codes "pass" ∷ pass_tokens pass number) ++ 10 ∷ []

abbrev pub passes_text : Roamed → List ℕ
passes_text made = flat_map (λ number. pass_text (pass_at made.passes number) number) (range_with_len 0 4)

-- the summary of the steps that a number draws
abbrev pub roam_text : ℕ → List ℕ
roam_text number = let made = roamed four 4 (drawn_steps number) in visits_text number made ++ passes_text made
