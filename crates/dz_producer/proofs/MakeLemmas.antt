-- A change that is made.
use Rattle.std.proofs.Common.{◌≡◌, ℕ, ◌<◌, ◌≤◌, true, false, List, [], ◌∷◌, length, sym, ◌∙◌, ap, subst, arith, Some}
use Rattle.std.proofs.Common.{None}
use Rattle.std.specs.Prelude.{nat_lt}
use Rattle.std.specs.List.{All}
use Rattle.std.proofs.lemmas.Bool.Decides.{nat_tests}
use Rattle.dz_name.specs.Words.{Name, Octets}
use Rattle.dz_serial.specs.Serial.{is_newer}
use Rattle.dz_record.specs.Record.{Record}
use Rattle.dz_message.specs.Frame.{stream}
use Rattle.dz_message.specs.Piece.{FitsAlone, packed, written}
use Rattle.dz_zone.specs.Version.{Zone}
use Rattle.dz_xfr.specs.Apex.{held_serial}
use Rattle.dz_member.specs.declared.listing.Node.{Node}
use Rattle.dz_producer.specs.Amended.{IsCatalog, listed, is_dropped, no_label, gone, kept, nodes_after, question_of}
use Rattle.dz_producer.specs.Amended.{difference_octets, amend_fault}
use Rattle.dz_producer.specs.Faults.{produce_fault}
use Rattle.dz_producer.specs.Produced.{produced}
use Rattle.dz_producer.specs.declared.fault.ProduceFault.{ProduceFault}
use Rattle.dz_producer.specs.declared.fault.AmendFault.TheVariants.{Produce, TooLong}
use Rattle.dz_producer.specs.inner.Changes.{spelled}
use Rattle.dz_producer.proofs.AmendFaultLemmas.{nodes_fault, long_fault, none_holds}
use Rattle.dz_producer.proofs.SpelledLemmas.{Sound, sound, sound_gone, sound_added, spelled_is, spelled_fit}

module _ (old : Zone) (serial : ℕ) (dropped : List Octets) (added : List Node) (at : Name) (given : List Node)
    (name : at ≡ old.apex) (nodes : given ≡ nodes_after old dropped added) where
  pub told : produce_fault at serial given ≡ produce_fault old.apex serial (nodes_after old dropped added)
  told = ap (λ (a : Name). produce_fault a serial given) name ∙ ap (produce_fault old.apex serial) nodes

  pub made : (version : Zone) → version ≡ produced at serial given
      → version ≡ produced old.apex serial (nodes_after old dropped added)
  made version is = is ∙ ap (λ (a : Name). produced a serial given) name ∙ ap (produced old.apex serial) nodes

  pub nodes_told : (fault : ProduceFault) → is_newer (held_serial old) serial ≡ true → no_label old dropped ≡ false
      → produce_fault at serial given ≡ Some fault → amend_fault old serial dropped added ≡ Some (Produce fault)
  nodes_told fault n l f = nodes_fault old serial dropped added n l fault (sym told ∙ f)

  pub gone_sound : IsCatalog old → Sound old.apex (gone old dropped)
  gone_sound catalog = sound_gone old.apex (is_dropped dropped) (listed old)
      (sound old.apex (held_serial old) (listed old) catalog.faultless)

  pub added_sound : produce_fault at serial given ≡ None → Sound old.apex added
  added_sound f = sound_added old.apex (kept old dropped) added
      (sound old.apex serial (nodes_after old dropped added) (sym told ∙ f))

  module _ (records : List Record)
      (are : records ≡ spelled old serial (nodes_after old dropped added) (gone old dropped) added) where
    pub records_fit : IsCatalog old → produce_fault at serial given ≡ None → All FitsAlone records
    records_fit catalog f =
        subst (All FitsAlone) (sym are) (spelled_fit old serial dropped added catalog (sym told ∙ f))

    pub octets_are : (octets : Octets) → octets ≡ stream (written (packed 0 (question_of old ∷ []) [] records))
        → octets ≡ difference_octets old serial dropped added
    octets_are octets is = is ∙ ap (λ (rs : List Record). stream (written (packed 0 (question_of old ∷ []) [] rs)))
        (are ∙ spelled_is old serial dropped added)

    pub too_long : (octets : Octets) → octets ≡ stream (written (packed 0 (question_of old ∷ []) [] records))
        → 67108864 < length octets → is_newer (held_serial old) serial ≡ true → no_label old dropped ≡ false
        → produce_fault at serial given ≡ None
        → amend_fault old serial dropped added ≡ Some TooLong
    too_long octets is long n l f =
        let t : nat_lt 67108864 (length octets) ≡ true = grind (arith, nat_tests) in
        long_fault old serial dropped added n l (sym told ∙ f)
        (ap (λ (o : Octets). nat_lt 67108864 (length o)) (sym (octets_are octets is)) ∙ t)

    pub not_long : (octets : Octets) → octets ≡ stream (written (packed 0 (question_of old ∷ []) [] records))
        → length octets ≤ 67108864 → is_newer (held_serial old) serial ≡ true → no_label old dropped ≡ false
        → produce_fault at serial given ≡ None
        → amend_fault old serial dropped added ≡ None
    not_long octets is short n l f =
        let t : nat_lt 67108864 (length octets) ≡ false = grind (arith, nat_tests) in
        none_holds old serial dropped added n l (sym told ∙ f)
        (ap (λ (o : Octets). nat_lt 67108864 (length o)) (sym (octets_are octets is)) ∙ t)
