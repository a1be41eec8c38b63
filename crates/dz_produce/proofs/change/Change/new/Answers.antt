-- The nodes and their labels are those of the catalog.
use Rattle.std.proofs.Common.{rules, ◌≡◌, ◌&&◌, ◌∙◌, Bool, true, false, refl, sym, ap}
use Rattle.std.specs.List.{list_any}
use Rattle.dz_name.specs.Name.{same_label}
use Rattle.dz_producer.specs.Amended.{listed, is_listed}
use Rattle.dz_produce.proofs.change.Change.new.Goals as goal

and_true : (a : Bool) → (a && true) ≡ a
and_true true = refl
and_true false = refl

pub invariant_of-result : goal.invariant_of-result
invariant_of-result c =
    let old = c.args.version in
    let nodes : c.nodes.result.now ≡ listed old = search rules in
    let again : c.nodes-2.result.now ≡ listed old = search rules in
    record {
      known = record { catalog = c.requires; held = rw again at c.octets_of-octets.ensures.held };
      lists = search rules;
      stays = λ label. rw c.new.ensures.items (c.in_ok-left.ensures label
          ∙ (ap (list_any (λ n. same_label n.label label)) nodes ∙ sym (and_true (is_listed old label))));
      octets = search rules;
    }
