use Rattle.std.proofs.Common.{◌-◌, arith, sym, ◌∙◌}
use Rattle.dz_index.specs.Rows.{count, total, key_at}
use Rattle.dz_index.proofs.SearchLemmas.{first_place, end_of_owner, end_of_none, has_it, has_other, takes_at_most}
use Rattle.dz_index.proofs.SearchLemmas.{one_more, none_less}
use Rattle.dz_index.proofs.index.Index.run_of.Goals as goal

pub end-requires : goal.end-requires
end-requires g c = (has_it c.search-found.result (count c.args.self.now) (key_at c.args.self.now c.search-found.result)
    c.octets-key.result.now (sym c.has_key.ensures.value ∙ c.if-has_key.true)).0

pub returns-then-has_key-clause-begin : goal.returns-then-has_key-clause-begin
returns-then-has_key-clause-begin g c = λ owners index.
    first_place c.args.name.now owners c.args.self.now c.octets-key.result.now c.search-found.result
    c.first-begin.result (c.octets-key.ensures.value ∙ c.set.ensures) index
    (c.search-found.ensures.place index.rise) c.search-found.ensures.within c.first-begin.ensures.first

pub returns-then-has_key-clause-end : goal.returns-then-has_key-clause-end
returns-then-has_key-clause-end g c = λ owners index.
    let found = has_it c.search-found.result (count c.args.self.now) (key_at c.args.self.now c.search-found.result)
    c.octets-key.result.now (sym c.has_key.ensures.value ∙ c.if-has_key.true) in
    let key = c.octets-key.ensures.value ∙ c.set.ensures in
    rw c.end.ensures.end
    (end_of_owner c.args.name.now owners c.args.self.now _ c.search-found.result key index found.1 found.0)

pub returns-then-has_key-clause-cost : goal.returns-then-has_key-clause-cost
returns-then-has_key-clause-cost g c =
    takes_at_most (count c.args.self.now) (total c.args.self.now)
    (c.search-found.new.steps - c.args.steps.now) _ c.search-found.ensures.few c.search-found.ensures.cost (omega (
      arith,
      one_more c.search-found.result (count c.args.self.now) c.search-found.new.steps c.has_key.new.steps
          c.search-found.ensures.within c.has_key.ensures.one c.has_key.ensures.none,
      c.search-found.ensures.counted,
    ))

pub returns-else-has_key-clause-begin : goal.returns-else-has_key-clause-begin
returns-else-has_key-clause-begin g c = λ owners index.
    first_place c.args.name.now owners c.args.self.now c.octets-key.result.now c.search-found.result
    c.first-begin.result (c.octets-key.ensures.value ∙ c.set.ensures) index
    (c.search-found.ensures.place index.rise) c.search-found.ensures.within c.first-begin.ensures.first

pub returns-else-has_key-clause-end : goal.returns-else-has_key-clause-end
returns-else-has_key-clause-end g c = λ owners index.
    let key = c.octets-key.ensures.value ∙ c.set.ensures in
    rw c.first-begin.ensures.first (end_of_none c.args.name.now owners c.args.self.now _ c.search-found.result key
    index (c.search-found.ensures.place index.rise) c.search-found.ensures.within
    (λ within at. has_other c.search-found.result (count c.args.self.now)
    (key_at c.args.self.now c.search-found.result) c.octets-key.result.now
    (sym c.has_key.ensures.value ∙ c.if-has_key.false) within at))

pub returns-else-has_key-clause-cost : goal.returns-else-has_key-clause-cost
returns-else-has_key-clause-cost g c =
    takes_at_most (count c.args.self.now) (total c.args.self.now)
    (c.search-found.new.steps - c.args.steps.now) _ c.search-found.ensures.few c.search-found.ensures.cost (omega (
      arith,
      one_more c.search-found.result (count c.args.self.now) c.search-found.new.steps c.has_key.new.steps
          c.search-found.ensures.within c.has_key.ensures.one c.has_key.ensures.none,
      c.search-found.ensures.counted,
    ))

pub returns-then-has_key-clause-counted : goal.returns-then-has_key-clause-counted
returns-then-has_key-clause-counted g c =
    omega (
      arith,
      none_less c.search-found.result (count c.args.self.now) c.search-found.new.steps c.has_key.new.steps
          c.search-found.ensures.within c.has_key.ensures.one c.has_key.ensures.none,
      c.search-found.ensures.counted,
    )

pub returns-else-has_key-clause-counted : goal.returns-else-has_key-clause-counted
returns-else-has_key-clause-counted g c =
    omega (
      arith,
      none_less c.search-found.result (count c.args.self.now) c.search-found.new.steps c.has_key.new.steps
          c.search-found.ensures.within c.has_key.ensures.one c.has_key.ensures.none,
      c.search-found.ensures.counted,
    )
