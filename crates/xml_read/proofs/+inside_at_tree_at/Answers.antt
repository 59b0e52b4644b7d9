-- `inside_at` and `tree_at`, which call each other.
use Rattle.std.proofs.Common.{refl, ap, not, arith}
use Rattle.xml_read.proofs.Marking.{marked_more}
use Rattle.xml_read.proofs.Reading.{tree-headless, tree-unfilled, part-ends, head-name, tree-unended, tree-found}
use Rattle.xml_read.proofs.Reading.{reading-start, inside-none, inside-same, reading-next, reading-end}
use Rattle.xml_read.proofs.+inside_at_tree_at.Goals as goal

pub inside_at-loop-keys-init : goal.inside_at-loop-keys-init
inside_at-loop-keys-init t c = reading-start _ _ _ _ _ _ _ c.requires.0

pub inside_at-tree_at-requires : goal.inside_at-tree_at-requires
inside_at-tree_at-requires t c = (omega arith, (c.loop-keys.invariant.within, omega arith))

pub inside_at-returns-in_err-t : goal.inside_at-returns-in_err-t
inside_at-returns-in_err-t t c =
    rw c.from_residual.ensures (inside-none c.loop-keys.invariant c.starts.ensures (ap not c.loop-keys-test.true) c.in_err-t.ensures)

pub inside_at-returns-then-not-add : goal.inside_at-returns-then-not-add
inside_at-returns-then-not-add t c =
    inside-same c.loop-keys.invariant c.starts.ensures (ap not c.loop-keys-test.true) _ c.in_ok-t.ensures
    c.add.new.keys c.add.result c.add.ensures (ap not c.if-not-add.true)

pub inside_at-loop-keys-preserved : goal.inside_at-loop-keys-preserved
inside_at-loop-keys-preserved t c =
    reading-next c.loop-keys.invariant c.starts.ensures (ap not c.loop-keys-test.true) _ c.in_ok-t.ensures
    c.add.new.keys c.add.result c.add.ensures (ap not c.if-not-add.false) c.with_tree-p.ensures _ (λ ms ns e x y. marked_more x e y)

pub inside_at-returns : goal.inside_at-returns
inside_at-returns t c = reading-end c.loop-keys.invariant c.starts.ensures (ap not c.loop-keys-test.false)

pub tree_at-returns-in_err-head : goal.tree_at-returns-in_err-head
tree_at-returns-in_err-head t c = rw c.from_residual.ensures (tree-headless c.args.text.now c.args.at c.args.depth c.args.subject c.in_err-head.ensures)

pub tree_at-returns-in_err-inside : goal.tree_at-returns-in_err-inside
tree_at-returns-in_err-inside t c = rw c.from_residual-in_err-inside.ensures (tree-unfilled c.args.text.now c.args.at c.args.depth c.args.subject c.in_ok-head.ensures c.in_err-inside.ensures)

pub tree_at-end_at-requires : goal.tree_at-end_at-requires
tree_at-end_at-requires t c =
    (part-ends _ _ _ _ c.in_ok-head.ensures _ c.in_ok-inside.ensures, head-name _ _ 0 0 c.in_ok-head.ensures)

pub tree_at-returns-in_err-next : goal.tree_at-returns-in_err-next
tree_at-returns-in_err-next t c =
    rw c.from_residual-in_err-next.ensures (tree-unended c.args.text.now c.args.at c.args.depth c.args.subject c.in_ok-head.ensures _ c.in_ok-inside.ensures c.in_err-next.ensures)

pub tree_at-returns : goal.tree_at-returns
tree_at-returns t c =
    tree-found _ _ _ _ c.in_ok-head.ensures _ c.in_ok-inside.ensures c.in_ok-next.ensures
    _ refl c.is_own.ensures (omega arith) (λ ms x. marked_more c.note.ensures refl x)
