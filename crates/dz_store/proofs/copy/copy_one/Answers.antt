use Rattle.std.proofs.Common.{◌≡◌, ap, sym, subst, ◌∙◌}
use Rattle.std.specs.Option.{option_map}
use Rattle.std.proofs.lemmas.Bool.{false≢true}
use Rattle.dz_disk.specs.RecordLog.{records}
use Rattle.dz_store.specs.Payload.{reads}
use Rattle.dz_store.specs.Store.{counting}
use Rattle.dz_store.proofs.CopyLemmas.{kept_own}
use Rattle.dz_store.proofs.copy.copy_one.Goals as goal

pub returns-then-not-branch-clause-copied : goal.returns-then-not-branch-clause-copied
returns-then-not-branch-clause-copied g c = λ f e told empty.
    let stored = c.has_failed.ensures.settled (sym c.has_failed.ensures.value ∙ c.if-has_failed.false) f told in
    let found = subst (λ o. option_map (λ v. v.items) o ≡ counting c.args.zone.now (records reads f)) c.in-Some.is
    (c.in_ok-payload.ensures.counting f told) in
    let own = kept_own c.args.zone.now (records reads f) c.in-Some.payload.items stored.fits (sym found) in
    absurd (false≢true
    (sym c.if-not-branch.true ∙ c.in_ok-is_payload.ensures ∙ ap reads c.deref.ensures.value ∙ own.readable))
