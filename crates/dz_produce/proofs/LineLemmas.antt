-- The groups of a line.
use Rattle.std.proofs.Common.{◌≡◌, ℕ, List, [], ◌∷◌, ◌++◌, refl, sym, ◌∙◌, ap, append_assoc, Some, None, Option}
use Rattle.std.proofs.lemmas.List.{append-nil}
use Rattle.dz_produce.specs.Lines.{group_of, in_front, groups_of}
use Rattle.dz_produce.specs.inner.Words.{with_groups}

front_more : (groups : List (List ℕ)) (group : List ℕ) (more : Option (List (List ℕ)))
    → with_groups groups (in_front (Some group) more) ≡ with_groups (groups ++ group ∷ []) more
front_more groups group None = refl
front_more groups group (Some others) = ap Some (sym (append_assoc groups (group ∷ []) others))

-- one more word was read
pub one_more : (groups : List (List ℕ)) (group field : List ℕ) (fields rest : List (List ℕ))
    → fields ≡ field ∷ rest → Some group ≡ group_of field
    → with_groups groups (groups_of fields) ≡ with_groups (groups ++ group ∷ []) (groups_of rest)
unfolding groups_of
one_more groups group field fields rest is read = ap (λ (fs : List (List ℕ)). with_groups groups (groups_of fs)) is
    ∙ (ap (λ (g : Option (List ℕ)). with_groups groups (in_front g (groups_of rest))) (sym read)
    ∙ front_more groups group (groups_of rest))

-- a field is no word
pub bad_word : (groups : List (List ℕ)) (field : List ℕ) (fields rest : List (List ℕ)) → fields ≡ field ∷ rest
    → None ≡ group_of field → with_groups groups (groups_of fields) ≡ None
unfolding groups_of
bad_word groups field fields rest is read = ap (λ (fs : List (List ℕ)). with_groups groups (groups_of fs)) is
    ∙ ap (λ (g : Option (List ℕ)). with_groups groups (in_front g (groups_of rest))) (sym read)

pub all_read : (groups : List (List ℕ)) (fields : List (List ℕ)) → fields ≡ []
    → with_groups groups (groups_of fields) ≡ Some groups
unfolding groups_of
all_read groups fields none = ap (λ (fs : List (List ℕ)). with_groups groups (groups_of fs)) none
    ∙ ap Some (append-nil groups)

pub none_read : (fields : List (List ℕ)) → groups_of fields ≡ with_groups [] (groups_of fields)
none_read fields = go (groups_of fields)
  where
    go : (more : Option (List (List ℕ))) → more ≡ with_groups [] more
    go None = refl
    go (Some others) = refl
