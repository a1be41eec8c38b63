-- What was said of a disk that can't be used, and how the list began.
use Rattle.std.proofs.Common.{[], subst}
use Rattle.dz_provision.specs.Held.{IsSaid}
use Rattle.dz_provision.specs.Log.{unkept_text}
use Rattle.dz_serve.proofs.RunLemmas.{said_core, same_begun, same_legal, seated_on}
use Rattle.dz_serve.proofs.begin.begin.Goals as goal

pub returns-in-Ok-say_unkept : goal.returns-in-Ok-say_unkept
returns-in-Ok-say_unkept g c =
    let same = said_core c.args.provisioner.now _ c.say_unkept.result c.say_unkept.new.self c.say_unkept.ensures in
    let said = subst (λ name. IsSaid c.args.provisioner.now (unkept_text name c.in-Err.fault) c.say_unkept.result
    c.say_unkept.new.self) c.root.ensures c.say_unkept.ensures in
    record {
      none = λ none. absurd (cc (none, c.in-Some.is));
      restored = tt;
      unkept = λ some is. (
        c.in-Err.fault,
        subst (λ r. IsSaid c.args.provisioner.now
            (unkept_text [] c.in-Err.fault) r c.say_unkept.new.self) c.in-Ok-say_unkept.is said,
      );
      halt = tt;
      write = tt;
      first = λ e first. same_begun _ _ e same first;
      legal = same_legal _ _ same c.tell.ensures.legal;
      seated = seated_on _ _ _ c.learn.ensures.same c.requires.seated;
    }

pub returns : goal.returns
returns g c =
    let same = said_core c.args.provisioner.now _ c.say_unkept.result c.say_unkept.new.self c.say_unkept.ensures in
    record {
      none = λ none. absurd (cc (none, c.in-Some.is));
      restored = tt;
      unkept = λ some is. cc is;
      halt = c.halt-in-Err-say_unkept.ensures.halt;
      write = c.halt-in-Err-say_unkept.ensures.write;
      first = λ e first. same_begun _ _ e same first;
      legal = same_legal _ _ same c.tell.ensures.legal;
      seated = seated_on _ _ _ c.learn.ensures.same c.requires.seated;
    }
