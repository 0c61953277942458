-- The value of a text, and the names of an object.
use Rattle.std.proofs.Common.{◌≡◌, ℕ, Bool, true, false, List, [], ◌∷◌, map, cond, Some, None, Err, String, Global, string_bytes, refl, ap, sym, ◌∙◌}
use Rattle.std.specs.Prelude.{IsUtf8}
use Rattle.std.specs.Str.{is_utf8}
use Rattle.std.specs.List.{list_all}
use Rattle.std.specs.Map.{keys_of}
use Rattle.std.proofs.lemmas.List.Folds.{list_all-map}
use Rattle.std.proofs.lemmas.Str.{IsUtf8-from_is_utf8, is_utf8-from_IsUtf8}
use Rattle.run_model.specs.declared.status.LoadKind.TheVariants.{NotJson}
use Rattle.serde_json.specs.Data.{Data}
use Rattle.serde_json.specs.Read.{read}
use Rattle.serde_json.specs.View.{members_view}
use Rattle.serde_json.specs.declared.value.Value.{Value}
use Rattle.work_load.specs.Workloads.{has_names, is_name, names_of, workload_by, workload_of, workload_in}

-- a text that is JSON is what its value is
pub workload_in-json : (text : List ℕ) (value : Data)
    → IsUtf8 text
    → read text ≡ Some value
    → workload_in text ≡ workload_of value
unfolding workload_in
workload_in-json text value utf8 is = rw (is_utf8-from_IsUtf8 text utf8, is) refl

-- a text that isn't JSON is no workload
not_json : (text : List ℕ) (b : Bool)
    → is_utf8 text ≡ b
    → (IsUtf8 text → read text ≡ None)
    → workload_by (cond b (read text) None) ≡ Err (0, NotJson)
not_json text true is none = ap workload_by (none (IsUtf8-from_is_utf8 text is))
not_json text false is none = refl

pub workload_in-not_json : (text : List ℕ)
    → (IsUtf8 text → read text ≡ None)
    → workload_in text ≡ Err (0, NotJson)
unfolding workload_in
workload_in-not_json text none = not_json text (is_utf8 text) refl none

-- the names of an object are the keys that it is kept by
pub names_of-members : (members : List (String Global × Value))
    → names_of (members_view members) ≡ map string_bytes (keys_of members)
names_of-members [] = refl
names_of-members (first ∷ members) = ap (λ (names : List (List ℕ)). string_bytes first.0 ∷ names) (names_of-members members)

pub has_names-members : (members : List (String Global × Value))
    → list_all (λ name. is_name (string_bytes name)) (keys_of members) ≡ has_names (Some (members_view members))
has_names-members members = sym (ap (list_all is_name) (names_of-members members) ∙ list_all-map is_name string_bytes (keys_of members))
