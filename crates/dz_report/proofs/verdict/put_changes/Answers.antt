use Rattle.std.proofs.Common.{◌≡◌, ◌∙◌, ap, sym, ◌+◌, ◌++◌, drop}
use Rattle.std.proofs.lemmas.Option.{get_or_from_slice_get}
use Rattle.std.specs.List.{flat_map}
use Rattle.dz_report.specs.Lines.{change_line}
use Rattle.dz_report.proofs.ChangeLemmas.{line_more, lines_all}
use Rattle.dz_report.proofs.verdict.put_changes.Goals as goal

pub changes-preserved : goal.changes-preserved
changes-preserved c =
    let whole = c.args.text.now.items ++ flat_map change_line c.args.changes.now in
    let grown : c.put_change.new.text.items ≡ c.changes.text.items ++ change_line c.at.result =
    c.in_ok-put_change.ensures in
    ap (λ text. text ++ flat_map change_line (drop (c.changes.place + 1) c.args.changes.now)) grown
    ∙ line_more change_line c.args.changes.now c.changes.place c.at.result c.changes.text.items whole
    (rw c.len-place-end.ensures at c.changes-test.true)
    (sym (get_or_from_slice_get c.args.changes.now c.changes.place c.at.result c.at.result c.at.ensures))
    c.changes.invariant

pub returns : goal.returns
returns c =
    lines_all change_line c.args.changes.now c.changes.place c.changes.text.items
    (c.args.text.now.items ++ flat_map change_line c.args.changes.now)
    (rw c.len-place-end.ensures at c.changes-test.false) c.changes.invariant
