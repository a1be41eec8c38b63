-- Trees of values as lists.
use Rattle.std.proofs.Common.{◌≡◌, ℕ, ◌+◌, ◌<◌, Bool, true, false, not, List, [], ◌∷◌, ◌++◌, map, take, length, get_or}
use Rattle.std.proofs.Common.{refl, sym, ◌∙◌, ap}
use Rattle.std.specs.Prelude.{◌||◌, String, string_bytes, Ok, Err}
use Rattle.std.specs.List.{list_any, fold}
use Rattle.std.specs.declared.alloc.Global.{Global}
use Rattle.std.proofs.lemmas.List.{take_more, map_push}
use Rattle.toml.specs.Data.{Data, Items}
use Rattle.toml.specs.View.{view, items_of, items_view, members_view}
use Rattle.toml.specs.declared.value.Value.{Value}
use Rattle.dz_config.specs.Document.{list_of, keys_of, is_key, known}
use Rattle.dz_config.specs.Reading.{Reading, made, more, gathered}
use Rattle.dz_config.specs.declared.keys.Place.{Place}
use Rattle.dz_config.specs.declared.fault.ConfigFault.TheVariants.{UnknownKey}

list_of-items : (ds : List Data) → list_of (items_of ds) ≡ ds
list_of-items [] = refl
list_of-items (d ∷ ds) = ap (λ es. d ∷ es) (list_of-items ds)

pub values_from : (w : Reading Items) (vs s : List Value) → Ok (items_view vs) ≡ w → s ≡ vs
    → Ok (map view s) ≡ made list_of w
values_from w vs s e is =
    ap (λ xs. Ok (map view xs)) is ∙ (ap Ok (sym (list_of-items (map view vs))) ∙ ap (made list_of) e)

any_keys : (p : List ℕ → Bool) (es : List (String Global × Value))
    → list_any (λ k. p (string_bytes k)) (map (λ e. e.0) es) ≡ list_any p (keys_of (members_view es))
any_keys p [] = refl
any_keys p (e ∷ es) = ap (λ b. p (string_bytes e.0) || b) (any_keys p es)

pub any_known : (place : Place) (es : List (String Global × Value)) (r : Bool)
    → r ≡ list_any (λ k. not (is_key place (string_bytes k))) (map (λ e. e.0) es)
    → r ≡ list_any (λ k. not (is_key place k)) (keys_of (members_view es))
any_known place es r h = h ∙ any_keys (λ k. not (is_key place k)) es

fold_push : {A B : Type 0} (f : B → A → B) (b : B) (xs : List A) (x : A) → fold f b (xs ++ x ∷ []) ≡ f (fold f b xs) x
fold_push f b [] x = refl
fold_push f b (y ∷ ys) x = fold_push f (f b y) ys x

-- one value more is gathered
pub gathered_more : {X : Type 0} (read : Data → Reading X) (vs : List Value) (i : ℕ) (v : Value)
    (old new : Reading (List X)) → i < length vs → v ≡ get_or vs i v → old ≡ gathered (map read (map view (take i vs)))
    → new ≡ more old (read (view v)) → new ≡ gathered (map read (map view (take (i + 1) vs)))
gathered_more read vs i v old new lt is h e =
    e
    ∙ (ap (λ r. more r (read (view v))) h
    ∙ (sym (fold_push more (Ok []) (map read (map view (take i vs))) (read (view v)))
    ∙ (ap gathered (sym (map_push read (map view (take i vs)) (view v)))
    ∙ (ap (λ ds. gathered (map read ds)) (sym (map_push view (take i vs) v))
    ∙ (ap (λ x. gathered (map read (map view (take i vs ++ x ∷ [])))) is
    ∙ ap (λ xs. gathered (map read (map view xs))) (sym (take_more vs i v lt)))))))

pub known_bad : (place : Place) (es : List (String Global × Value)) (r : Bool)
    → r ≡ list_any (λ k. not (is_key place (string_bytes k))) (map (λ e. e.0) es) → r ≡ true
    → Err UnknownKey ≡ known place (members_view es)
known_bad place es r h t = rw (sym (any_known place es r h) ∙ t) refl

pub known_good : (place : Place) (es : List (String Global × Value)) (r : Bool)
    → r ≡ list_any (λ k. not (is_key place (string_bytes k))) (map (λ e. e.0) es) → r ≡ false
    → Ok tt ≡ known place (members_view es)
known_good place es r h t = rw (sym (any_known place es r h) ∙ t) refl
