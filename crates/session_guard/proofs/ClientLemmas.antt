-- A client that stops, and goes on.
use Rattle.std.proofs.Common.{◌≡◌, ℕ, ◌<◌, ◌-◌, List, [], ◌∷◌, ◌++◌, length, get_or, set, take, Some, refl, ap, ◌∙◌, arith}
use Rattle.std.specs.List.{slice_get}
use Rattle.std.proofs.Math.Seq.{take-append_seam}
use Rattle.std.proofs.lemmas.List.{length_push, set-get_or}
use Rattle.std.proofs.lemmas.Option.{slice_get_read}
use Rattle.session_guard.specs.declared.client.Client.{Client}

-- a client at its place
pub client_there : (clients : List Client) (pass : ℕ) (client : Client)
    → pass < length clients
    → client ≡ get_or clients pass client
    → slice_get clients pass ≡ Some client
client_there clients pass client within read = slice_get_read clients (length clients) pass client refl within read

pub set_back : (clients : List Client) (pass : ℕ) (client new : Client)
    → client ≡ get_or clients pass client
    → new ≡ client
    → set clients pass new ≡ clients
set_back clients pass client new read same = ap (set clients pass) (same ∙ read) ∙ set-get_or clients pass client

-- with a stop taken back
pub passed_by : (client one two : Client) (position : ℕ)
    → one ≡ record client { trip = client.trip ++ position ∷ [] }
    → two ≡ record one { trip = take (length one.trip - 1) one.trip }
    → two ≡ client
passed_by client one two position stopped by =
    let trip = client.trip ++ position ∷ [] in
    let count : length trip - 1 ≡ length client.trip = omega (arith, length_push client.trip position) in
    by
    ∙ ap (λ (c : Client). let back : Client = record c { trip = take (length c.trip - 1) c.trip } in back) stopped
    ∙ ap (λ (t : List ℕ). let back : Client = record client { trip = t } in back) (ap (λ (n : ℕ). take n trip) count ∙ take-append_seam client.trip (position ∷ []))
