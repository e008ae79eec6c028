-- The five numbers stand one behind the other; the first word is the one that its edition and its n give.
use mathlib.Core.Path.{refl}
use native.Mathlib.Omega.{arith}
use Rattle.paper.specs.Words.{number16}
use Rattle.paper.specs.Table.{edition, states}
use Rattle.paper.proofs.Words.{number16_below}
use Rattle.paper.proofs.Editions.{word_back}
use Rattle.words.proofs.Lent.{fits_bytes}
use Rattle.build.proofs.Front.{front-placed}
use Rattle.build.proofs.parts.put_front.Goals as goal

pub returns : goal.returns
returns c =
    let t = c.args.t.now in
    let word = word_back (number16 t 0) (edition t) (states t) (number16_below t 0 (fits_bytes t c.type_inv.t)) refl refl in
    rw (← c.get16-2.ensures, ← c.get16-3.ensures)
    (front-placed c.args.room.now _ _ _ _ _ (edition t) _ (states t) _ _ c.args.depth c.args.m c.requires.1
    c.put16.ensures (omega (arith, c.get16.ensures, word)) c.put16-2.ensures c.put16-3.ensures c.put16-4.ensures c.put32.ensures)
