use Rattle.std.proofs.Common.{◌≡◌, ℕ, ◌+◌, ◌++◌, List, length, ap, ◌∙◌, arith, take}
use Rattle.dz_name.specs.Numbers.{two}
use Rattle.dz_name.specs.Name.{wire_of}
use Rattle.dz_name.proofs.NumberLemmas.{length_two}
use Rattle.dz_message.proofs.PieceLemmas.{front_put, question_size, question_put}
use Rattle.dz_message.proofs.piece.put_question.Goals as goal

pub returns-clause-place : goal.returns-clause-place
returns-clause-place c =
    omega (arith, question_size c.args.question.now, ap (λ xs. length xs) c.wire-wire.ensures.wire)

pub returns-clause-octets : goal.returns-clause-octets
returns-clause-octets c =
    let wire : List ℕ = c.wire-wire.result.now in
    let at : ℕ = 12 + length wire in
    let size = c.wire-wire.ensures.name.short in
    let same = ap (λ xs. length xs) c.wire-wire.ensures.wire in
    let l1 = ap (λ xs. length xs) c.two.ensures ∙ length_two c.args.question.now.kind in
    let l2 = ap (λ xs. length xs) c.two-2.ensures ∙ length_two c.args.question.now.class in
    let out : List ℕ = c.args.out.now in
    let one : take at c.put_at.new.out ≡ take 12 out ++ wire =
    ap (λ xs. take at xs) c.put_at.ensures ∙ front_put 12 at wire out (omega arith) (omega arith) in
    let second : take (at + 2) c.put_at-2.new.out ≡ take at c.put_at.new.out ++ c.two.result =
    ap (λ xs. take (at + 2) xs) c.put_at-2.ensures
    ∙ front_put at (at + 2) c.two.result c.put_at.new.out (omega arith) (omega arith) in
    let third : take (at + 4) c.put_at-3.new.out ≡ take (at + 2) c.put_at-2.new.out ++ c.two-2.result =
    ap (λ xs. take (at + 4) xs) c.put_at-3.ensures
    ∙ front_put (at + 2) (at + 4) c.two-2.result c.put_at-2.new.out (omega arith) (omega arith) in
    third ∙ ap (λ xs. xs ++ c.two-2.result) second ∙ ap (λ xs. xs ++ c.two.result ++ c.two-2.result) one
    ∙ ap (λ xs. (take 12 out ++ xs) ++ c.two.result ++ c.two-2.result) c.wire-wire.ensures.wire
    ∙ ap (λ xs. (take 12 out ++ wire_of c.args.question.now.name) ++ xs ++ c.two-2.result) c.two.ensures
    ∙ ap (λ xs. (take 12 out ++ wire_of c.args.question.now.name) ++ two c.args.question.now.kind ++ xs)
    c.two-2.ensures
    ∙ question_put c.args.question.now (take 12 out)
