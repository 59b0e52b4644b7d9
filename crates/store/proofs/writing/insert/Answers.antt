-- `store::insert`: the subject's partition is lent.
use native.Mathlib.Omega.{arith}
use Rattle.model.specs.Path.{steps_of}
use Rattle.model.specs.Groups.{made}
use Rattle.model.proofs.Dominance.{label-lt}
use Rattle.store.proofs.Lending.{own-vacant, own-changed}
use Rattle.store.proofs.writing.insert.Goals as goal

pub slice_bounds-put_all-end : goal.slice_bounds-put_all-end
slice_bounds-put_all-end c = omega (arith, label-lt _ c.requires.vacant.own.label, c.requires.vacant.own.size, c.from-start.ensures)

pub put_all-requires : goal.put_all-requires
put_all-requires c =
    record {
      vacant = own-vacant c.requires.vacant c.from-start.ensures;
      path_len_bound = c.requires.path_len_bound;
    }

pub returns : goal.returns
returns c = own-changed c.requires.vacant.own c.from-start.ensures (made c.args.seen (steps_of c.args.path.now) _) c.put_all.ensures
