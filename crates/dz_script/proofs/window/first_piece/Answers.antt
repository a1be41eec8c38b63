-- What the first newline's place says of the piece.
use Rattle.std.proofs.Common.{sym, ◌∙◌}
use Rattle.dz_script.proofs.WindowLemmas.{piece_closed, piece_full, piece_open}
use Rattle.dz_script.proofs.window.first_piece.Goals as goal

pub returns-in-Some-clause-kind : goal.returns-in-Some-clause-kind
returns-in-Some-clause-kind c =
    piece_closed c.args.octets.now c.min-count.result c.in-Some.at (sym c.newline_in.ensures ∙ c.in-Some.is)

pub returns-in-None-clause-kind : goal.returns-in-None-clause-kind
returns-in-None-clause-kind c = piece_full c.args.octets.now c.min-count.result c.args.room c.min-count.ensures
    c.if-count-octets.true (sym c.newline_in.ensures ∙ c.in-None.is)

pub returns-in-None-2-clause-kind : goal.returns-in-None-2-clause-kind
returns-in-None-2-clause-kind c =
    piece_open c.args.octets.now c.min-count.result c.if-count-octets.false (sym c.newline_in.ensures ∙ c.in-None-2.is)
