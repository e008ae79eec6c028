use Rattle.std.proofs.Common.{◌≤◌, max, length, refl, sym, ap, ◌∙◌, arith, length-take-le}
use Rattle.words.proofs.Front.{largest_front}
use Rattle.rewrite.proofs.Setting.{image_accepted, setting, table_states}
use Rattle.rewrite.proofs.Standing.{passed_as}
use Rattle.rewrite.proofs.Sweeping.{few, sweeping_start, sweeping_more, sweeping_done}
use Rattle.rewrite.proofs.rewriting.RewritingSource.worst_by.Goals as goal

pub loop-c-init : goal.loop-c-init
loop-c-init c = sweeping_start (setting c.args.self.now) _ _ c.args.self.now.begins_long refl refl

pub overflow_cast-c : goal.overflow_cast-c
overflow_cast-c c = let I = c.args.self.now.image in omega (arith, I.classes_are, (image_accepted I).few_classes)

pub take_class-requires : goal.take_class-requires
take_class-requires c =
    let r = c.args.self.now in
    let W = c.loop-c.invariant in
    (passed_as r.image.bytes.now (image_accepted r.image) r.image.n _ r.image.states_are refl, r.begin, W.cursors, W.cursor_long, W.own_long)

pub take_hops-requires : goal.take_hops-requires
take_hops-requires c = (few (setting c.args.self.now), rw (table_states c.args.self.now) c.requires, c.loop-c.invariant.hop_long)

pub slice_bounds-hop-end : goal.slice_bounds-hop-end
slice_bounds-hop-end c = omega (arith, few (setting c.args.self.now), c.take_hops.ensures.long)

pub slice_bounds-most-end : goal.slice_bounds-most-end
slice_bounds-most-end c =
    let h : c.args.self.now.image.n ≤ length c.take_hops.new.hop = omega (arith, few (setting c.args.self.now), c.take_hops.ensures.long) in
    sym (length-take-le c.args.self.now.image.n c.take_hops.new.hop h)

pub loop-c-preserved : goal.loop-c-preserved
loop-c-preserved c =
    let S = setting c.args.self.now in
    let said = c.take_class.ensures in
    let n = c.args.self.now.image.n in
    sweeping_more S c.loop-c.invariant c.loop-c-test.true c.take_class.new.cursor c.take_class.new.own _
    said.2 said.3 said.1 said.0 c.take_hops.ensures c.most-worst.result
    (c.most-worst.ensures ∙ ap (max c.loop-c.worst) (largest_front n c.take_hops.new.hop (omega (arith, few S, c.take_hops.ensures.long))))

pub returns : goal.returns
returns c = sweeping_done (setting c.args.self.now) c.loop-c.invariant c.loop-c-test.false
