-- The items of a list, as they were read and as a JSON value keeps them.
use Rattle.std.proofs.Common.{◌≡◌, List, [], ◌∷◌, Ok, Some, refl, ap, sym, ◌∙◌}
use Rattle.serde_json.specs.Data.{Data}
use Rattle.serde_json.specs.Find.{as_array}
use Rattle.serde_json.specs.View.{items_of}
use Rattle.work_load.specs.Values.{list_of, listed, listed_from}

pub list_of-items_of : (values : List Data) → list_of (items_of values) ≡ values
list_of-items_of [] = refl
list_of-items_of (value ∷ values) = ap (λ (rest : List Data). value ∷ rest) (list_of-items_of values)

pub listed-items : (value : Data) (values : List Data)
    → Some (items_of values) ≡ as_array value
    → listed value ≡ Ok values
unfolding listed
listed-items value values is = ap listed_from (sym is) ∙ ap (λ (list : List Data). Ok list) (list_of-items_of values)
