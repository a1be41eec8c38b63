use Rattle.std.proofs.Common.{sym, ◌∙◌, ap}
use Rattle.std.specs.Prelude.{filter}
use Rattle.dz_secure.specs.Secure.{covers}
use Rattle.dz_secure.proofs.SignatureLemmas.{are_searchable, unsigned}
use Rattle.dz_secure.proofs.signature.signatures.Goals as goal

pub returns-then-not-is_secure-clause-signatures : goal.returns-then-not-is_secure-clause-signatures
returns-then-not-is_secure-clause-signatures g c = unsigned c.args.version.now c.args.owner.now c.args.kind
    c.is_secure.ensures.valid.rises (sym c.is_secure.ensures.secure ∙ c.if-not-is_secure.true)

pub covering_type-requires : goal.covering_type-requires
covering_type-requires g c = rw c.rrset_near-signed.ensures.rrset
    (are_searchable c.args.version.now.records c.args.owner.now 46 c.is_secure.ensures.valid.rises)

pub returns-clause-signatures : goal.returns-clause-signatures
returns-clause-signatures g c =
    c.covering_type.ensures ∙ ap (filter (covers c.args.kind)) c.rrset_near-signed.ensures.rrset
