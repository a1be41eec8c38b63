-- A whole form of differences is read to its end.
use Rattle.std.proofs.Common.{◌≡◌, ◌≢◌, ℕ, true, false, List, [], ◌∷◌, ◌++◌, refl, ◌∙◌, ap, append_assoc, inl, inr}
use Rattle.std.proofs.Common.{eq-eqb}
use Rattle.std.proofs.lemmas.Bool.{cases_Bool, eqb-true}
use Rattle.std.proofs.lemmas.Slice.Eq.{bytes_eq-Decides}
use Rattle.std.specs.Prelude.{◌==◌}
use Rattle.std.specs.Str.{bytes_eq}
use Rattle.std.specs.List.{flat_map}
use Rattle.dz_name.specs.Words.{Name, Octets}
use Rattle.dz_record.specs.Record.{Record}
use Rattle.dz_record.specs.Records.{insertion}
use Rattle.dz_zone.specs.Version.{Zone}
use Rattle.dz_xfr.specs.Apex.{is_apex_soa, serial_of, held_serial}
use Rattle.dz_xfr.specs.Place.{Place, amid, ended, read}
use Rattle.dz_ixfr.specs.Incremental.{is_there, without, Deletes, Adds, HasNoSoa, Difference, spelled, IsDifference}
use Rattle.dz_ixfr.specs.Incremental.{Leads, leads_last, leads_on, others, IsIncremental}
use Rattle.dz_ixfr.specs.Reading.{Amid, nothing, begun, deleting, adding, one, place_of}

pub octets_same : (a b : Octets) → a ≡ b → bytes_eq a b ≡ true
octets_same a b e = (bytes_eq-Decides a b).1 e

pub octets_are : (a b : Octets) → bytes_eq a b ≡ true → a ≡ b
octets_are a b t = (bytes_eq-Decides a b).0 t

pub differ : (a b : ℕ) → a ≢ b → (a == b) ≡ false
differ a b n =
    elim (cases_Bool (a == b)) [
      | inl t ↦ absurd (n (eqb-true a b t))
      | inr f ↦ f
    ]

module _ (apex : Name) where
  abbrev pub go : Place Amid → List Record → Place Amid
  go place records = read (one apex) place records

  pub step_first : (r : Record) (serial : ℕ) (zone : List Record) → is_apex_soa apex r ≡ true
      → one apex (nothing serial zone) r ≡ amid (begun r serial zone)
  step_first r serial zone t = rw t refl

  pub step_held : (first r : Record) (serial : ℕ) (zone : List Record) → is_apex_soa apex r ≡ true
      → serial_of r ≡ serial → one apex (begun first serial zone) r ≡ amid (deleting first zone)
  step_held first r serial zone t e = rw (t, eq-eqb (serial_of r) serial e) refl

  pub step_new : (first r : Record) (zone : List Record) → is_apex_soa apex r ≡ true
      → one apex (deleting first zone) r ≡ amid (adding first (serial_of r) zone)
  step_new first r zone t = rw t refl

  pub step_old : (first r : Record) (serial : ℕ) (zone : List Record) → is_apex_soa apex r ≡ true → serial
      ≢ serial_of first → serial_of r ≡ serial → one apex (adding first serial zone) r ≡ amid (deleting first zone)
  step_old first r serial zone t n e = rw (t, differ serial (serial_of first) n, eq-eqb (serial_of r) serial e) refl

  pub step_end : (first r : Record) (serial : ℕ) (zone : List Record) → is_apex_soa apex r ≡ true → serial
      ≡ serial_of first → r.rdata ≡ first.rdata → one apex (adding first serial zone) r ≡ ended (insertion first zone)
  step_end first r serial zone t n e =
      rw (t, eq-eqb serial (serial_of first) n, octets_same r.rdata first.rdata e) refl

  pub step_delete : (first r : Record) (zone : List Record) → is_apex_soa apex r ≡ false → is_there r zone ≡ true
      → one apex (deleting first zone) r ≡ amid (deleting first (without r zone))
  step_delete first r zone f t = rw (f, t) refl

  pub step_add : (first r : Record) (serial : ℕ) (zone : List Record) → is_apex_soa apex r ≡ false
      → is_there r zone ≡ false → one apex (adding first serial zone) r ≡ amid (adding first serial (insertion r zone))
  step_add first r serial zone f t = rw (f, t) refl

  deletes_read : (first : Record) (zone deleted after rest : List Record)
      → HasNoSoa apex deleted → Deletes zone deleted after
      → go (amid (deleting first zone)) (deleted ++ rest) ≡ go (amid (deleting first after)) rest
  deletes_read first zone [] after rest n d = rw d refl
  deletes_read first zone (r ∷ rs) after rest n d =
      ap (λ p. go p (rs ++ rest)) (step_delete first r zone n.0 d.0)
      ∙ deletes_read first (without r zone) rs after rest n.1 d.1

  adds_read : (first : Record) (serial : ℕ) (zone added after rest : List Record)
      → HasNoSoa apex added → Adds zone added after
      → go (amid (adding first serial zone)) (added ++ rest) ≡ go (amid (adding first serial after)) rest
  adds_read first serial zone [] after rest n d = rw d refl
  adds_read first serial zone (r ∷ rs) after rest n d =
      ap (λ p. go p (rs ++ rest)) (step_add first r serial zone n.0 d.0)
      ∙ adds_read first serial (insertion r zone) rs after rest n.1 d.1

  -- a place from which an SOA of this serial leads among deleted records
  abbrev Opens : Record → ℕ → List Record → Place Amid → Type 0
  Opens first serial zone place = (r : Record) (rest : List Record) → is_apex_soa apex r ≡ true → serial_of r ≡ serial
      → go place (r ∷ rest) ≡ go (amid (deleting first zone)) rest

  difference_read : (first : Record) (serial : ℕ) (zone after rest : List Record) (d : Difference) (place : Place Amid)
      → Opens first serial zone place → IsDifference apex serial zone d after
      → go place (spelled d ++ rest) ≡ go (amid (adding first (serial_of d.new) after)) rest
  difference_read first serial zone after rest d place o i =
      o d.old ((d.deleted ++ d.new ∷ d.added) ++ rest) i.old i.old_serial
      ∙ (ap (go (amid (deleting first zone))) (append_assoc d.deleted (d.new ∷ d.added) rest)
      ∙ (deletes_read first zone d.deleted i.middle (d.new ∷ (d.added ++ rest)) i.deleted i.deletes
      ∙ (ap (λ p. go p (d.added ++ rest)) (step_new first d.new i.middle i.new)
      ∙ adds_read first (serial_of d.new) i.middle d.added after rest i.added i.adds)))

  opens_next : (first : Record) (serial : ℕ) (zone : List Record) → serial ≢ serial_of first
      → Opens first serial zone (amid (adding first serial zone))
  opens_next first serial zone n r rest t e = ap (λ p. go p rest) (step_old first r serial zone t n e)

  leads_read : (first : Record) (serial : ℕ) (zone : List Record) (ds : List Difference) (after rest : List Record)
      (place : Place Amid) → Opens first serial zone place → Leads apex (serial_of first) serial zone ds after
      → go place (flat_map spelled ds ++ rest) ≡ go (amid (adding first (serial_of first) after)) rest
  leads_read first serial zone [] after rest place o x = elim x [ ]
  leads_read first serial zone (d ∷ []) after rest place o (leads_last i e) =
      ap (go place) (append_assoc (spelled d) [] rest)
      ∙ (difference_read first serial zone after rest d place o i ∙ ap (λ n. go (amid (adding first n after)) rest) e)
  leads_read first serial zone (d ∷ ds) after rest place o (leads_on next i n l) =
      ap (go place) (append_assoc (spelled d) (flat_map spelled ds) rest)
      ∙ (difference_read first serial zone next (flat_map spelled ds ++ rest) d place o i
      ∙ leads_read first (serial_of d.new) next ds after rest (amid (adding first (serial_of d.new) next))
      (opens_next first (serial_of d.new) next n) l)

  opens_held : (first : Record) (serial : ℕ) (zone : List Record)
      → Opens first serial zone (amid (begun first serial zone))
  opens_held first serial zone r rest t e = ap (λ p. go p rest) (step_held first r serial zone t e)

  pub form_read : (first last : Record) (ds : List Difference) (serial : ℕ) (zone after : List Record)
      → is_apex_soa apex first ≡ true → Leads apex (serial_of first) serial zone ds after
      → is_apex_soa apex last ≡ true → last.rdata ≡ first.rdata
      → go (amid (nothing serial zone)) (first ∷ (flat_map spelled ds ++ last ∷ [])) ≡ ended (insertion first after)
  form_read first last ds serial zone after t l c e =
      ap (λ p. go p (flat_map spelled ds ++ last ∷ [])) (step_first first serial zone t)
      ∙ (leads_read first serial zone ds after (last ∷ []) (amid (begun first serial zone))
      (opens_held first serial zone) l
      ∙ step_end first last (serial_of first) after c refl e)

pub to_end : (held : Zone) (records zone : List Record) → IsIncremental held records zone
    → place_of held records ≡ ended zone
to_end held records zone w =
    rw (w.are, w.zone_is) (form_read held.apex w.first w.last w.differences (held_serial held)
    (others held) w.after w.opens w.leads w.closes w.same)
