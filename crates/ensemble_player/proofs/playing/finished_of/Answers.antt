-- `finished_of` meets its contract. The loop's invariant: the first v are there. Assumes nothing.
use Rattle.std.proofs.Common.{◌≡◌, ℕ, zero, suc, ◌≤◌, false, List, map, length, get_or, set, take, sym, refl, ap, ◌∙◌, add-one, arith, take-suc}
use Rattle.std.proofs.Math.Seq.{take-length}
use Rattle.listlaws.specs.Tables.{tabulate, padded}
use Rattle.listlaws.proofs.Tabulation.{fill_more}
use Rattle.ensemble.specs.declared.Member.{Member}
use Rattle.ensemble.specs.Ensemble.{no_member}
use Rattle.ensemble_player.proofs.Makings.{map_tabulate}
use Rattle.ensemble_player.proofs.Voices.{get_or_before}
use Rattle.ensemble_player.proofs.playing.finished_of.Invariants.{done}
use Rattle.ensemble_player.proofs.playing.finished_of.Goals as goal

tabulate_take : (l : List Member) (n : ℕ) → n ≤ length l → tabulate (λ i. get_or l i no_member) n ≡ take n l
unfolding tabulate
tabulate_take l zero h = refl
tabulate_take l (suc n) h = rw (tabulate_take l n (omega arith)) (sym (take-suc l n no_member h))

done_all : (l : List Member) (n : ℕ) → n ≡ length l → done l n ≡ map (λ m. m.finished) l
done_all l n e =
    sym (map_tabulate (λ m. m.finished) (λ i. get_or l i no_member) n)
    ∙ ap (map (λ m. m.finished)) (tabulate_take l n (omega (arith, e)) ∙ ap (λ (k : ℕ). take k l) e ∙ take-length l)

pub loop-v-init : goal.loop-v-init
unfolding tabulate
loop-v-init c = refl

pub loop-v-preserved : goal.loop-v-preserved
loop-v-preserved c =
    let l = c.args.voices.now in
    let v = c.loop-v.v in
    let same = get_or_before l v _ no_member c.loop-v-test.true in
    rw (c.loop-v.invariant, add-one) (ap (λ (m : Member). set (padded 16 false (done l v)) v m.finished) same ∙ fill_more (λ k. (get_or l k no_member).finished) 16 false v (omega (arith, c.loop-v-test.true, c.requires)))

pub returns : goal.returns
returns c = c.loop-v.invariant ∙ ap (padded 16 false) (done_all c.args.voices.now c.loop-v.v (omega (arith, c.loop-v-test.false, c.loop-v.auto.v-end)))
