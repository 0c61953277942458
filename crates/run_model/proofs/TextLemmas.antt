-- Texts that grow, token by token.
use Rattle.std.proofs.Common.{◌≡◌, ℕ, ◌≤◌, List, [], ◌∷◌, ◌++◌, length, take, codes, Result, Ok, Err, refl, sym, ap, ◌∙◌, append_assoc, arith}
use Rattle.std.specs.Result.{OnOk, OnErr}
use Rattle.std.proofs.lemmas.List.{take-take, take_at, length-take, append-nil}
use Rattle.run_model.specs.Text.{line_text, spaced, BeginsWith}
use Rattle.std.proofs.lemmas.Grind.{flat_map-append}

-- a text that begins with a longer one begins with what that begins with
pub begins_more : (old mid new : List ℕ)
    → BeginsWith mid new
    → BeginsWith old mid
    → BeginsWith old new
begins_more old mid new m o =
    let shorter : length old ≤ length mid = omega (arith, ap length o, length-take (length old) mid) in
    sym (take-take (length old) (length mid) new shorter) ∙ ap (take (length old)) m ∙ o

-- a text that was appended to begins as it did
pub begins_append : (old more : List ℕ) → BeginsWith old (old ++ more)
begins_append old more = take_at old more (length old) refl

-- a text that grew before the last call failed
pub begins_grown : (old mid new more : List ℕ)
    → BeginsWith mid new
    → mid ≡ old ++ more
    → BeginsWith old new
begins_grown old mid new more m e = begins_more old mid new m (rw e (begins_append old more))

pub always_err : {T E P : Type 0} → (r : Result T E) → P → OnErr r P
always_err (Ok x) p = tt
always_err (Err e) p = p

-- a line is its first token, and then the others with a space before each
pub line_text-cons : (token : List ℕ) (tokens : List (List ℕ))
    → line_text (token ∷ tokens) ≡ token ++ spaced tokens
line_text-cons token [] = sym (append-nil token)
line_text-cons token (next ∷ tokens) = ap (λ rest. token ++ (32 ∷ rest)) (line_text-cons next tokens)

spaced-append : (xs ys : List (List ℕ)) → spaced (xs ++ ys) ≡ spaced xs ++ spaced ys
spaced-append xs ys = flat_map-append (λ token. 32 ∷ token) xs ys

-- five pieces, one after the other
regroup : (a b c d e : List ℕ) → a ++ b ++ c ++ d ++ e ≡ a ++ ((b ++ (c ++ d)) ++ e)
regroup a b c d e = simp append_assoc

-- a line made of its word and two lists of further tokens
pub line_from_parts : (word : List ℕ) (xs ys : List (List ℕ)) (old a b c : List ℕ)
    → a ≡ old ++ word
    → b ≡ a ++ spaced xs
    → c ≡ b ++ spaced ys
    → c ++ 10 ∷ [] ≡ old ++ (line_text (word ∷ (xs ++ ys)) ++ 10 ∷ [])
line_from_parts word xs ys old a b c at_a at_b at_c =
    let line = line_text-cons word (xs ++ ys) ∙ ap (λ rest. word ++ rest) (spaced-append xs ys) in
    rw (at_c, at_b, at_a) (regroup old word (spaced xs) (spaced ys) (10 ∷ []) ∙ ap (λ text. old ++ (text ++ 10 ∷ [])) (sym line))

-- a line's pieces, one after the other
regroup_line : (a b c d e : List ℕ) → a ++ ((b ++ c) ++ (d ++ e)) ≡ (a ++ (b ++ (c ++ d))) ++ e
regroup_line a b c d e = simp append_assoc

-- the line of an entry, from what it begins with and the tokens of its act
pub line_of_entry : (replica moment : List ℕ) (tokens : List (List ℕ)) (old new text rest : List ℕ)
    → new ≡ old ++ text
    → text ≡ (codes "e" ++ spaced (replica ∷ moment ∷ [])) ++ rest
    → rest ≡ spaced tokens ++ (10 ∷ [])
    → new ≡ (old ++ line_text (codes "e" ∷ replica ∷ moment ∷ tokens)) ++ (10 ∷ [])
line_of_entry replica moment tokens old new text rest at_new at_text at_rest =
    let front : List (List ℕ) = replica ∷ moment ∷ [] in
    let line : line_text (codes "e" ∷ (front ++ tokens)) ≡ codes "e" ++ (spaced front ++ spaced tokens) =
    line_text-cons (codes "e") (front ++ tokens) ∙ ap (λ (more : List ℕ). codes "e" ++ more) (spaced-append front tokens) in
    at_new
    ∙ ap (λ (more : List ℕ). old ++ more) (at_text ∙ ap (λ (more : List ℕ). (codes "e" ++ spaced front) ++ more) at_rest)
    ∙ regroup_line old (codes "e") (spaced front) (spaced tokens) (10 ∷ [])
    ∙ ap (λ (more : List ℕ). (old ++ more) ++ (10 ∷ [])) (sym line)

-- tokens, and tokens after them
pub tokens_of_both : (xs ys : List (List ℕ)) (rest : List ℕ) → spaced xs ++ (spaced ys ++ rest) ≡ spaced (xs ++ ys) ++ rest
tokens_of_both xs ys rest =
    sym (append_assoc (spaced xs) (spaced ys) rest) ∙ ap (λ (more : List ℕ). more ++ rest) (sym (spaced-append xs ys))

-- the tokens of a call, from those of its request and of its reply
pub call_of_both : (client number : List ℕ) (xs ys : List (List ℕ)) (rest : List ℕ)
    → (codes " call" ++ spaced (client ∷ number ∷ [])) ++ (spaced xs ++ (spaced ys ++ rest))
    ≡ spaced (codes "call" ∷ client ∷ number ∷ (xs ++ ys)) ++ rest
call_of_both client number xs ys rest =
    let front : List (List ℕ) = codes "call" ∷ client ∷ number ∷ [] in
    ap (λ (more : List ℕ). spaced front ++ more) (tokens_of_both xs ys rest) ∙ tokens_of_both front (xs ++ ys) rest

-- a line's pieces, where the last tokens are appended apart
regroup_long : (a b c d e f : List ℕ) → ((a ++ ((b ++ c) ++ d)) ++ e) ++ f ≡ a ++ ((b ++ c) ++ (d ++ e ++ f))
regroup_long a b c d e f = simp append_assoc

-- the line of an entry whose last tokens are appended apart
pub long_line_of_entry : (replica moment : List ℕ) (xs ys : List (List ℕ)) (old begun mid new text rest : List ℕ)
    → begun ≡ old ++ text
    → text ≡ (codes "e" ++ spaced (replica ∷ moment ∷ [])) ++ rest
    → rest ≡ spaced xs
    → mid ≡ begun ++ spaced ys
    → new ≡ mid ++ (10 ∷ [])
    → new ≡ (old ++ line_text (codes "e" ∷ replica ∷ moment ∷ (xs ++ ys))) ++ (10 ∷ [])
long_line_of_entry replica moment xs ys old begun mid new text rest at_begun at_text at_rest at_mid at_new =
    let front : List ℕ = codes "e" ++ spaced (replica ∷ moment ∷ []) in
    let whole : new ≡ old ++ (front ++ (spaced xs ++ spaced ys ++ (10 ∷ []))) =
    rw (at_new, at_mid, at_begun, at_text, at_rest) (regroup_long old (codes "e") (spaced (replica ∷ moment ∷ [])) (spaced xs) (spaced ys) (10 ∷ [])) in
    line_of_entry replica moment (xs ++ ys) old new (front ++ (spaced xs ++ spaced ys ++ (10 ∷ []))) (spaced xs ++ spaced ys ++ (10 ∷ [])) whole refl
    (ap (λ (more : List ℕ). more ++ (10 ∷ [])) (sym (spaced-append xs ys)))

-- what follows from what holds after a success
pub weaker_ok : {T E P Q : Type 0} → (r : Result T E) → (P → Q) → OnOk r P → OnOk r Q
weaker_ok (Ok x) f p = f p
weaker_ok (Err e) f p = tt

-- what a text begins with that was appended to, where the call failed
pub err_grown : {T E : Type 0} (r : Result T E) (old mid new more : List ℕ)
    → mid ≡ old ++ more
    → OnErr r (BeginsWith mid new)
    → OnErr r (BeginsWith old new)
err_grown (Ok x) old mid new more e b = tt
err_grown (Err f) old mid new more e b = begins_grown old mid new more b e

-- the same, where the failed call left it as it was
pub err_kept : {T E : Type 0} (r : Result T E) (old mid new more : List ℕ)
    → mid ≡ old ++ more
    → OnErr r (new ≡ mid)
    → OnErr r (BeginsWith old new)
err_kept (Ok x) old mid new more e b = tt
err_kept (Err f) old mid new more e b = rw (b, e) (begins_append old more)
