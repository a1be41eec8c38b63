-- Laws of what comes of a transfer.
use Rattle.std.proofs.Common.{◌≡◌, true, false, List, [], ◌∷◌, sym, ◌∙◌, ap, Option, Some, None, arith}
use Rattle.std.specs.Prelude.{if◌then◌else◌}
use Rattle.dz_name.specs.Words.{Name}
use Rattle.dz_record.specs.Record.{Record}
use Rattle.dz_zone.specs.Version.{Zone}
use Rattle.dz_xfr.specs.Stands.{Reading}
use Rattle.dz_axfr.specs.Reading as whole
use Rattle.dz_axfr.proofs.WholeLemmas.{whole_stands, whole_stands_once}
use Rattle.dz_ixfr.specs.Reading as incremental
use Rattle.dz_ixfr.proofs.Amids.{form_stands, form_stands_once}
use Rattle.dz_message.proofs.FrameLemmas.{come_back}
use Rattle.dz_take.specs.Form.{base_of, is_old_soa, reading_of, decision_of}
use Rattle.dz_take.specs.Laws.{kind_in, StandsOf, MessagesDecide, FormDecides, FormStands}
use Rattle.dz_take.specs.Outcome.{decided, or_incomplete}
use Rattle.dz_take.proofs.KindLemmas.{form_behind}

pub messages_tell : MessagesDecide
messages_tell transfer messages part short ends =
    ap (λ ms. or_incomplete (decided transfer ms)) (come_back _ messages part (omega arith) short ends)

-- what holds of records, by the form of their kind, is what its reading says
kind_reads : (apex : Name) (base : Option Zone) (records : List Record) (reading : Reading)
    → StandsOf apex (kind_in apex base records) records reading → reading ≡ reading_of apex base records
kind_reads apex None records reading stands = whole_stands_once apex records reading stands
kind_reads apex (Some zone) [] reading stands = whole_stands_once apex [] reading stands
kind_reads apex (Some zone) (first ∷ []) reading stands = whole_stands_once apex (first ∷ []) reading stands
kind_reads apex (Some zone) (first ∷ second ∷ rest) reading stands =
    elim (is_old_soa apex first second) as (λ b. StandsOf apex (if b then Some zone else None)
    (first ∷ second ∷ rest) reading → reading ≡ (if b then incremental.reading_of zone (first ∷ second ∷ rest)
    else whole.reading_of apex (first ∷ second ∷ rest))) [
      | true ↦ λ s. form_stands_once zone (first ∷ second ∷ rest) reading s
      | false ↦ λ s. whole_stands_once apex (first ∷ second ∷ rest) reading s
    ] stands

pub stands_tells : FormDecides
stands_tells transfer first rest reading soa unsettled stands =
    form_behind transfer first rest (record { soa = soa; unsettled = unsettled })
    ∙ ap (decision_of transfer.apex)
    (sym (kind_reads transfer.apex (base_of transfer.ask transfer.held) (first ∷ rest) reading stands))

pub kind_stands : FormStands
kind_stands apex None records = whole_stands apex records
kind_stands apex (Some zone) [] = whole_stands apex []
kind_stands apex (Some zone) (first ∷ []) = whole_stands apex (first ∷ [])
kind_stands apex (Some zone) (first ∷ second ∷ rest) =
    elim (is_old_soa apex first second) as (λ b. StandsOf apex (if b then Some zone else None)
    (first ∷ second ∷ rest) (if b then incremental.reading_of zone (first ∷ second ∷ rest)
    else whole.reading_of apex (first ∷ second ∷ rest))) [
      | true ↦ form_stands zone (first ∷ second ∷ rest)
      | false ↦ whole_stands apex (first ∷ second ∷ rest)
    ]
