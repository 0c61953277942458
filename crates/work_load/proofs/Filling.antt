-- A loop that reads items which stand together into the front of a list.
use Rattle.std.proofs.Common.{◌≡◌, List, [], ◌∷◌, ◌++◌, All, Ok, Err, Option, Some, None, option_map, unwrap_or, refl, ◌∙◌}
use Rattle.std.proofs.lemmas.List.Elements.{All-push}
use Rattle.std.proofs.lemmas.List.Sums.{fold_push}
use Rattle.run_model.specs.declared.status.LoadKind.{LoadKind}
use Rattle.serde_json.specs.Data.{Data}
use Rattle.work_load.specs.Values.{Reading, earlier, with_last, all_of}

-- what was read so far: this front of good items, or a fault
abbrev pub Filled : {A : Type 0} → (Data → Reading A) → (A → Type 0) → List Data → List A → Option LoadKind → Type 0
Filled read good values front None = (all_of read values ≡ Ok front) × All good front
Filled read good values front (Some kind) = all_of read values ≡ Err kind

pub all_of-push : {A : Type 0} (read : Data → Reading A) (values : List Data) (value : Data)
    → all_of read (values ++ value ∷ []) ≡ with_last (all_of read values) (read value)
all_of-push read values value = fold_push (λ found value. with_last found (read value)) (Ok []) values value

pub filled_item : {A : Type 0} (read : Data → Reading A) (good : A → Type 0) (values : List Data) (front : List A) (fault : Option LoadKind) (value : Data) (item : A)
    → Filled read good values front fault
    → read value ≡ Ok item
    → good item
    → Filled read good (values ++ value ∷ []) (front ++ item ∷ []) fault
filled_item read good values front None value item h is fit =
    (all_of-push read values value ∙ rw (h.0, is) refl, All-push good front item h.1 fit)
filled_item read good values front (Some kind) value item h is fit =
    all_of-push read values value ∙ rw (h, is) refl

pub filled_fault : {A : Type 0} (read : Data → Reading A) (good : A → Type 0) (values : List Data) (front after : List A) (fault : Option LoadKind) (value : Data) (kind : LoadKind)
    → Filled read good values front fault
    → read value ≡ Err kind
    → Filled read good (values ++ value ∷ []) after (Some (unwrap_or (option_map (λ first. earlier first kind) fault) kind))
filled_fault read good values front after None value kind h is =
    all_of-push read values value ∙ rw (h.0, is) refl
filled_fault read good values front after (Some first) value kind h is =
    all_of-push read values value ∙ rw (h, is) refl
