-- What the command says of its input, and what a run shows.
use Rattle.std.proofs.Common.{sym, ap, ◌∙◌}
use Rattle.dz_serve.proofs.RunLemmas.{not_served, bad_served, idle_of}
use Rattle.dz_serve.proofs.command.serve_input.Goals as goal

pub returns-in-Ok-clause-serve : goal.returns-in-Ok-clause-serve
returns-in-Ok-clause-serve g c =
    let s = c.serve.ensures in
    record {
      unserved = λ empty.
          let u = s.unserved empty in (
            idle_of c.serve.result.end _ _ _ s.input.0 (rw u.0 c.requires.written)
                (rw u.0 c.requires.faultless) s.write,
            u.1,
          );
      served = λ some. record {
        listen = c.in-Ok.server.listen;
        config = c.in-Ok.server.config;
        downstream = c.in-Ok.server.downstream;
        reads = λ octets told. (c.in-Ok.ensures.reads octets told).0;
        lists = λ octets told. (c.in-Ok.ensures.reads octets told).1;
        begins = (s.served some).0;
        ran = (s.served some).1;
      };
      done = λ is. s.done is;
      bad = λ is. absurd (s.input.0 is);
    }

pub returns-in-Err-Read-clause-serve : goal.returns-in-Err-Read-clause-serve
returns-in-Err-Read-clause-serve g c =
    let u = c.unserved.ensures in
    not_served _ _ _ _ _ _ _ _ _ (ap (λ d. d.publisher.list) u.desk ∙ c.requires.publisher.0)
    (rw (u.end, u.output) c.requires.written) (λ is. cc (sym u.end ∙ is))

pub returns-in-Err-OutOfMemory-clause-serve : goal.returns-in-Err-OutOfMemory-clause-serve
returns-in-Err-OutOfMemory-clause-serve g c =
    let u = c.unserved-in-Err-OutOfMemory.ensures in
    not_served _ _ _ _ _ _ _ _ _ (ap (λ d. d.publisher.list) u.desk ∙ c.requires.publisher.0)
    (rw (u.end, u.output) c.requires.written) (λ is. cc (sym u.end ∙ is))

pub returns-clause-serve : goal.returns-clause-serve
returns-clause-serve g c =
    let b = c.say_bad.ensures in
    let fault = c.in-Err-Bad.fault in
    bad_served _ _ _ _ _ _ _ _ fault _ _ (ap (λ d. d.publisher.list) b.desk ∙ c.requires.publisher.0)
    (λ octets told. rw c.in-Err-Bad.field-0-is at (c.in-Err-Bad.ensures.reads octets told)) c.requires.written
    (rw c.in-Err-Bad.field-0-is at b.said)
