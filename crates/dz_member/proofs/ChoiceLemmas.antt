-- The first known word of some TXT records.
use Rattle.std.proofs.Common.{◌≡◌, ℕ, ◌+◌, ◌<◌, ◌≤◌, suc, Bool, true, false, List, [], ◌∷◌, length, drop, get_or, refl}
use Rattle.std.proofs.Common.{sym, ◌∙◌, ap, subst, inl, inr, add-one}
use Rattle.std.specs.Prelude.{Option, Some, None, position}
use Rattle.std.specs.Option.{option_and_then}
use Rattle.std.specs.List.{find, filter_map, list_any, cons_option}
use Rattle.std.specs.Str.{bytes_eq}
use Rattle.std.proofs.Math.Seq.{drop-cons}
use Rattle.std.proofs.lemmas.List.{drop_all}
use Rattle.std.proofs.lemmas.List.Folds.{list_any_at}
use Rattle.std.proofs.lemmas.List.Quantifiers.{position-Some}
use Rattle.std.proofs.lemmas.Slice.Eq.{bytes_eq-Decides}
use Rattle.std.proofs.lemmas.Bool.{cases_Bool}
use Rattle.dz_name.specs.Words.{Octets}
use Rattle.dz_settings.specs.declared.config.GroupSettings.{GroupSettings}
use Rattle.dz_member.specs.Membership.{string_of, is_known, choice_of, group_at}
use Rattle.dz_member.proofs.SearchLemmas.{place_missing}

abbrev pub known_at : List GroupSettings → Octets → Option ℕ
known_at groups text = option_and_then (λ word. position (λ g. bytes_eq g.word word) groups) (string_of text)

none_passes : {X : Type 0} (p : X → Bool) (xs : List X) → None ≡ find p xs → list_any p xs ≡ false
none_passes p [] e = refl
none_passes p (x ∷ xs) e =
    elim (cases_Bool (p x)) [
      | inl t ↦ absurd (let s : None ≡ Some x = rw t at e in cc)
      | inr f ↦ rw f (none_passes p xs (rw f at e))
    ]

pub record IsChoice (groups : List GroupSettings) (choice : Option Octets) (k : ℕ) : Type 0 where
  pub word : Some (group_at groups k).word ≡ choice
  pub there : k < length groups

found_by : (groups : List GroupSettings) (word : Octets) (rest : List Octets) (k : ℕ)
    → position (λ g. bytes_eq g.word word) groups ≡ Some k → IsChoice groups (find (is_known groups) (word ∷ rest)) k
found_by groups word rest k e =
    let none : GroupSettings = group_at [] 0 in
    let s = position-Some (λ g. bytes_eq g.word word) groups k none e in
    let same : (group_at groups k).word ≡ word = (bytes_eq-Decides (group_at groups k).word word).0 s.1 in
    let known : is_known groups word ≡ true = list_any_at (λ g. bytes_eq g.word word) groups k none s.0 s.1 in
    record { word = rw known (ap Some same); there = s.0 }

found_in : (groups : List GroupSettings) (string : Option Octets) (rest : List Octets) (k : ℕ)
    → option_and_then (λ word. position (λ g. bytes_eq g.word word) groups) string ≡ Some k
    → IsChoice groups (find (is_known groups) (cons_option string rest)) k
found_in groups None rest k e = absurd (cc)
found_in groups (Some word) rest k e = found_by groups word rest k e

missed_in : (groups : List GroupSettings) (string : Option Octets) (rest : List Octets)
    → option_and_then (λ word. position (λ g. bytes_eq g.word word) groups) string ≡ None
    → find (is_known groups) (cons_option string rest) ≡ find (is_known groups) rest
missed_in groups None rest e = refl
missed_in groups (Some word) rest e =
    let f : is_known groups word ≡ false =
    none_passes (λ g. bytes_eq g.word word) groups (place_missing (λ g. bytes_eq g.word word) groups e) in
    rw f refl

behind : (texts : List Octets) (i : ℕ) (text : Octets) → i < length texts → text ≡ get_or texts i text
    → drop i texts ≡ text ∷ drop (i + 1) texts
behind texts i text lt e = rw (add-one i) (drop-cons texts i text lt ∙ ap (λ t. t ∷ drop (suc i) texts) (sym e))

pub choice_found : (groups : List GroupSettings) (texts : List Octets) (i : ℕ) (text : Octets) (k : ℕ)
    → i < length texts → text ≡ get_or texts i text
    → choice_of groups (drop i texts) ≡ choice_of groups texts → known_at groups text ≡ Some k
    → IsChoice groups (choice_of groups texts) k
unfolding choice_of
choice_found groups texts i text k lt e inv at =
    let cut : choice_of groups (text ∷ drop (i + 1) texts) ≡ choice_of groups texts =
    rw (behind texts i text lt e) at inv in
    subst (λ (c : Option Octets). IsChoice groups c k) cut
    (found_in groups (string_of text) (filter_map string_of (drop (i + 1) texts)) k at)

pub choice_missed : (groups : List GroupSettings) (texts : List Octets) (i : ℕ) (text : Octets) → i < length texts
    → text ≡ get_or texts i text
    → choice_of groups (drop i texts) ≡ choice_of groups texts → known_at groups text ≡ None
    → choice_of groups (drop (i + 1) texts) ≡ choice_of groups texts
unfolding choice_of
choice_missed groups texts i text lt e inv at =
    let cut : choice_of groups (text ∷ drop (i + 1) texts) ≡ choice_of groups texts =
    rw (behind texts i text lt e) at inv in
    sym (missed_in groups (string_of text) (filter_map string_of (drop (i + 1) texts)) at) ∙ cut

pub choice_end : (groups : List GroupSettings) (texts : List Octets) (i : ℕ) → length texts ≤ i
    → choice_of groups (drop i texts) ≡ choice_of groups texts → None ≡ choice_of groups texts
unfolding choice_of
choice_end groups texts i le inv =
    let none : choice_of groups [] ≡ choice_of groups texts = rw (drop_all i texts le) at inv in none
