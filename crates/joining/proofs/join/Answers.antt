-- The trees of u and v are turned to them, renewed and renumbered, and v gets u as its parent: the trees joined are held.
use Prim.Native.Nat.{◌<◌}
use mathlib.Core.Path.{◌≡◌}
use lib.ListN.{length}
use Rattle.joining.proofs.Joined.{joined_held}
use borrow.Author.Rules.{rules}
use Rattle.joining.proofs.join.Goals as goal

pub returns : goal.returns
returns c =
    let a = c.args in
    let long : a.v < length c.turned_to-parent.result = search rules in
    let long_far : length c.renew-d.result ≡ 512 = search rules in
    let long_tree : length c.renumber-tree.result ≡ 512 = search rules in
    joined_held a.n a.u a.v a.f.d a.f.parent a.f.tree c.turned_to-once.result c.turned_to-parent.result
    c.renew-d.result c.renumber-tree.result c.requires.0 c.requires.1 c.requires.2 long long_far long_tree
    c.turned_to-once.ensures.1 c.turned_to-parent.ensures.1 c.turned_to-parent.ensures.0
    c.renew-d.ensures c.renumber-tree.ensures
