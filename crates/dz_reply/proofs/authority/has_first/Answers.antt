use Rattle.std.proofs.Common.{sym, ◌∙◌, List}
use Rattle.std.specs.Borrow.{Bor}
use Rattle.dz_record.specs.Record.{Record}
use Rattle.dz_reply.specs.Secure.{begins_with}
use Rattle.dz_reply.proofs.AuthorityLemmas.{any_here, any_on, any_end}
use Rattle.dz_reply.proofs.authority.has_first.Goals as goal

pub returns-then-begins_with : goal.returns-then-begins_with
returns-then-begins_with c =
    any_here (λ (rs : Bor (List Record)). begins_with c.args.first.now rs.now) c.args.rrsets.now
    c.rrsets.rrset-index c.rrset-item.result c.rrsets-test.true c.rrset-item.is
    (sym c.begins_with.ensures ∙ c.if-begins_with.true) c.rrsets.invariant

pub rrsets-preserved : goal.rrsets-preserved
rrsets-preserved c =
    any_on (λ (rs : Bor (List Record)). begins_with c.args.first.now rs.now) c.args.rrsets.now
    c.rrsets.rrset-index c.rrset-item.result c.rrsets-test.true c.rrset-item.is
    (sym c.begins_with.ensures ∙ c.if-begins_with.false) c.rrsets.invariant

pub returns : goal.returns
returns c = any_end (λ (rs : Bor (List Record)). begins_with c.args.first.now rs.now) c.args.rrsets.now
    c.rrsets.rrset-index c.rrsets-test.false c.rrsets.invariant
