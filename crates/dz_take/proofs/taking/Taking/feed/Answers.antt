use Rattle.std.proofs.Common.{◌≡◌, sym, ◌∙◌, subst, None, [], ◌∷◌, ◌++◌}
use Rattle.dz_take.specs.Outcome.{decided}
use Rattle.dz_message.specs.Frame.{messages_in}
use Rattle.dz_take.specs.Taken.{Taken, Shows}
use Rattle.dz_take.proofs.TakingLemmas.{stands, nothing_read, next_taking, messages_next, shown}
use Rattle.dz_take.proofs.taking.Taking.feed.Goals as goal

pub invariant_of-self : goal.invariant_of-self
invariant_of-self c =
    rw c.replace-state.ensures.after (nothing_read c.self.inside.transfer c.clear.new.self.items c.clear.ensures.items)

pub judge-requires-clause-undecided : goal.judge-requires-clause-undecided
judge-requires-clause-undecided c =
    let t = c.self.inside in
    let none = subst (λ (t : Taken). decided t.transfer (messages_in t.octets) ≡ None)
    (sym c.self.view_is) c.requires.undecided in
    rw c.replace-state.ensures.value (stands t.transfer t.octets.items t.state c.self.invariant none).undecided

pub invariant_of-self-in-Err-judge : goal.invariant_of-self-in-Err-judge
invariant_of-self-in-Err-judge c = rw c.replace-state.ensures.after
    (nothing_read c.self.inside.transfer c.clear-in-Err-judge.new.self.items c.clear-in-Err-judge.ensures.items)

undecided : (c : goal.After-progress_of)
    → decided c.self.inside.transfer (messages_in c.self.inside.octets.items) ≡ None
undecided c =
    subst (λ (t : Taken). decided t.transfer (messages_in t.octets) ≡ None) (sym c.self.view_is) c.requires.undecided

pub invariant_of-self-in-Ok : goal.invariant_of-self-in-Ok
invariant_of-self-in-Ok c =
    let t = c.self.inside in
    next_taking t.transfer t.octets.items t.state c.self.invariant c.args.message.now _ c.len-used.result c.in-Ok.state
    (undecided c) c.in_default.ensures (c.len-used.ensures ∙ t.octets.ok.0) c.requires.short
    (rw c.replace-state.ensures.value at c.in-Ok.ensures)

pub returns-in-Ok-clause-messages : goal.returns-in-Ok-clause-messages
returns-in-Ok-clause-messages c =
    let t = c.self.inside in
    subst (λ (t : Taken). messages_in c.push_frame.new.out.items ≡ messages_in t.octets ++ c.args.message.now ∷ [])
    c.self.view_is
    (messages_next t.transfer t.octets.items t.state c.self.invariant c.args.message.now _ c.in_default.ensures
    c.requires.short)

pub returns-in-Ok-clause-progress : goal.returns-in-Ok-clause-progress
returns-in-Ok-clause-progress c =
    subst (λ (t : Taken). Shows c.progress_of.result (decided t.transfer (messages_in c.push_frame.new.out.items)))
    c.self.view_is
    (shown c.self.inside.transfer c.push_frame.new.out.items c.in-Ok.state
    (invariant_of-self-in-Ok c) c.progress_of.result c.progress_of.ensures)
