use Rattle.std.proofs.Common.{subst, sym, [], ◌∙◌}
use Rattle.std.proofs.lemmas.List.{append-nil}
use Rattle.sha2.specs.Hashers.{Holds256}
use Rattle.dz_tsig.specs.Hmac.{padded}
use Rattle.dz_tsig.proofs.mac.MacHasher.start.Goals as goal

pub returns : goal.returns
returns c = record {
  inner = subst (λ m. Holds256 c.update.new.self m) (c.as_slice.ensures
      ∙ (c.padded.ensures ∙ sym (append-nil (padded 54 c.args.key.now)))) (c.update.ensures [] c.new-inner.ensures);
  outer = subst (λ m. Holds256 c.update-2.new.self m) (c.as_slice-2.ensures ∙ c.padded-2.ensures)
      (c.update-2.ensures [] c.new-outer.ensures);
}
