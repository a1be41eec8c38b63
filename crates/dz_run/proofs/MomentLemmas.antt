-- The moment of an event is below its limit.
use Rattle.std.proofs.Common.{◌≡◌, ℕ, ◌-◌, ◌^◌, ◌<◌, ◌≤◌, List, [], ◌∷◌, refl, arith, inl, inr, Option, Some, None}
use Rattle.std.specs.Prelude.{nat_le, codes, option_map}
use Rattle.std.specs.Str.{bytes_eq}
use Rattle.std.proofs.lemmas.Bool.{cases_Bool}
use Rattle.std.proofs.lemmas.Bool.Decides.{nat_tests}
use Rattle.dz_name.specs.Words.{Name, Octets}
use Rattle.dz_name.specs.Decimal.{value_of, is_decimal, number_of}
use Rattle.dz_settings.specs.declared.config.CatalogSettings.{CatalogSettings}
use Rattle.dz_settings.specs.declared.config.GroupSettings.{GroupSettings}
use Rattle.dz_script.specs.Event.{event_of}
use Rattle.dz_script.specs.Fields.{fields_of}
use Rattle.dz_script.specs.Settings.{catalog_of, group_of}
use Rattle.dz_script.specs.Line.{is_skipped, moment_of, event_at, line_in, line_of}
use Rattle.dz_script.specs.declared.line.Event.{Event}
use Rattle.dz_run.specs.Phase.{IsTimed}
use Rattle.dz_script.specs.declared.line.Line.{Line}
use Rattle.dz_script.specs.declared.line.Line.TheVariants as lines

number_below : (most : ℕ) (text : Octets) (n : ℕ) → number_of most text ≡ Some n → n ≤ most
number_below most text n e = elim (cases_Bool (is_decimal text)) [
  | inr f ↦ absurd (let g : None ≡ Some n = rw f at e in cc)
  | inl t ↦ elim (cases_Bool (nat_le (value_of text) most)) [
    | inr f ↦ absurd (let g : None ≡ Some n = rw (t, f) at e in cc)
    | inl l ↦
        let g : Some (value_of text) ≡ Some n = rw (t, l) at e in
        let same : value_of text ≡ n = cc in
        let below : value_of text ≤ most = grind (arith, nat_tests, l) in
        omega (arith, same, below)
  ]
]

at_below : (text : Octets) (m : Option ℕ) (o : Option Event) (moment : ℕ) (event : Event) → moment_of text ≡ m
    → event_at m o ≡ Some (lines.Event moment event) → moment < 2 ^ 40
at_below text None None moment event is e = absurd (cc)
at_below text None (Some other) moment event is e = absurd (cc)
at_below text (Some n) None moment event is e = absurd (cc)
at_below text (Some n) (Some other) moment event is e =
    let same : n ≡ moment = cc in
    let below = number_below (2 ^ 40 - 1) text n is in
    omega (arith, same, below)

catalog_is_none : (o : Option CatalogSettings) (moment : ℕ) (event : Event)
    → option_map lines.Catalog o ≡ Some (lines.Event moment event) → ⊥
catalog_is_none None moment event e = cc
catalog_is_none (Some settings) moment event e = cc

group_is_none : (o : Option (Name × GroupSettings)) (moment : ℕ) (event : Event)
    → option_map (λ group. lines.Group group.0 group.1) o ≡ Some (lines.Event moment event) → ⊥
group_is_none None moment event e = cc
group_is_none (Some group) moment event e = cc

in_below : (fields : List Octets) (moment : ℕ) (event : Event) → line_in fields ≡ Some (lines.Event moment event)
    → moment < 2 ^ 40
in_below [] moment event e = absurd (cc)
in_below (word ∷ fields) moment event e = elim (cases_Bool (bytes_eq word (codes "catalog"))) [
  | inl t ↦ absurd (catalog_is_none (catalog_of fields) moment event (rw t at e))
  | inr f ↦ elim (cases_Bool (bytes_eq word (codes "group"))) [
    | inl t ↦ absurd (group_is_none (group_of fields) moment event (rw (f, t) at e))
    | inr g ↦ at_below word (moment_of word) (event_of fields) moment event refl (rw (f, g) at e)
  ]
]

moment_below : (line : Octets) (moment : ℕ) (event : Event) → line_of line ≡ Some (lines.Event moment event)
    → moment < 2 ^ 40
unfolding line_of
moment_below line moment event e = elim (cases_Bool (is_skipped line)) [
  | inl t ↦ absurd (let g : Some lines.Skip ≡ Some (lines.Event moment event) = rw t at e in cc)
  | inr f ↦ in_below (fields_of line) moment event (rw f at e)
]

pub timed : (text : Octets) (line : Line) → line_of text ≡ Some line → IsTimed line
timed text lines.Skip e = tt
timed text (lines.Catalog settings) e = tt
timed text (lines.Group name group) e = tt
timed text (lines.Event moment event) e = moment_below text moment event e
