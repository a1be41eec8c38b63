use Rattle.std.proofs.Common.{◌≡◌, ◌∙◌}
use Rattle.dz_history.proofs.StateLemmas.{put_state}
use Rattle.dz_history.proofs.holdings.Holdings.with_slot.Goals as goal

pub invariant_of-result : goal.invariant_of-result
invariant_of-result c =
    let versions : c.in_ok-share_all.field-0.items ≡ c.self.inside.versions.items =
    c.in_ok-share_all.ensures ∙ c.as_slice.ensures.value in
    let sources : c.in_ok-share_all-2.field-0.items ≡ c.self.inside.sources.items =
    c.in_ok-share_all-2.ensures ∙ c.as_slice-2.ensures.value in
    rw (c.in_ok-try_clone.ensures, versions, sources, c.in_ok-new.ensures.ok, c.in_ok-table.ensures, c.deref.ensures)
    (record {
      state = put_state _ c.args.slot c.self.invariant.state (rw (← c.self.view_is) at c.requires);
      read = c.self.invariant.read;
    })
