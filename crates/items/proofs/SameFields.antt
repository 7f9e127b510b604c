-- Items in a record and in RUN.md's numbers: what a record holds is read alike. Assumes nothing.
use Prim.Native.Nat.{ℕ}
use mathlib.Core.Bool.{Bool}
use native.Mathlib.Omega.{arith}
use borrow.Author.Tests.{lt-ltb}
use lib.Ieee.{Float}
use Rattle.fields.specs.Parser.{when}
use Rattle.fields.specs.Fields.{number, below}
use Rattle.record.specs.Reading.{rate, span, smooth, settings, modulation, point, path_point, loopback, shape, path, scale, item}
use Rattle.runs.specs.Records as Run
use Rattle.runs.specs.Curves as Curves
use Rattle.items.specs.Said as Items
use Rattle.items.proofs.Within.{Within, within_same, within_then, within_below, within_narrow, within_number, within_that, within_when, within_row}

-- a number below a limit, in one case of a choice
number_if : (limit : ℕ) (chosen : Bool) → Within (when chosen 0 (below limit)) (when chosen 0 number)
number_if limit = within_when (within_number limit) 0

rate_within : Within rate Run.rate
unfolding rate Run.rate
rate_within =
    within_below _ _ _ λ _ _.
    within_then _ _ (number_if _ _) λ _.
    within_then _ _ (number_if _ _) λ _.
    within_then _ _ within_same λ _.
    within_then _ _ (number_if _ _) λ _.
    within_same

span_within : Within span Run.span
unfolding span Run.span
span_within =
    within_below _ _ _ λ _ _.
    within_then _ _ (number_if _ _) λ _.
    within_same

smooth_within : Within smooth Run.smooth
unfolding smooth Run.smooth
smooth_within = within_below _ _ _ λ _ _. within_same

settings_within : Within settings Run.settings
unfolding settings Run.settings
settings_within =
    within_below _ _ _ λ _ _.
    within_below _ _ _ λ _ _.
    within_below _ _ _ λ _ _.
    within_then _ _ rate_within λ _.
    within_below _ _ _ λ _ _.
    within_below _ _ _ λ _ _.
    within_then _ _ span_within λ _.
    within_then _ _ span_within λ _.
    within_then _ _ smooth_within λ _.
    within_then _ _ within_same λ _.
    within_below _ _ _ λ _ _.
    within_same

modulation_within : Within modulation Curves.modulation
unfolding modulation Curves.modulation
modulation_within =
    within_below _ _ _ λ _ _.
    within_then _ _ within_same λ _.
    within_then _ _ (within_when (within_that _ _) _ _) λ _.
    within_same

point_within : (before : Float) → Within (point before) Curves.point
unfolding point Curves.point
point_within before =
    within_then _ _ (within_that _ _) λ _.
    within_then _ _ (within_that _ _) λ _.
    within_then _ _ (within_that _ _) λ _.
    within_below _ _ _ λ _ _.
    within_then _ _ modulation_within λ _.
    within_then _ _ modulation_within λ _.
    within_same

path_point_within : Within path_point Curves.path_point
unfolding path_point Curves.path_point
path_point_within =
    within_then _ _ (within_that _ _) λ _.
    within_then _ _ (within_that _ _) λ _.
    within_then _ _ (within_that _ _) λ _.
    within_then _ _ modulation_within λ _.
    within_then _ _ modulation_within λ _.
    within_same

loopback_within : Within loopback Curves.loopback
unfolding loopback Curves.loopback
loopback_within = within_below _ _ _ λ _ _. within_same

shape_within : Within shape Curves.shape
unfolding shape Curves.shape
shape_within =
    within_narrow _ _ _
    (λ n h.
    within_row _ _ _ (λ _. point_within _) n (omega arith) _ _ λ _.
    within_then _ _ loopback_within λ _.
    within_same)
    _
    (omega arith)

path_within : Within path Curves.path
unfolding path Curves.path
path_within =
    within_narrow _ _ _
    (λ n h.
    within_below _ _ _ λ _ _.
    within_row _ _ _ (λ _. path_point_within) n (omega arith) _ _ λ _.
    within_same)
    _
    (omega arith)

-- both codes that a record has are known, and have a percentage
scale_within : Within scale Run.scale
unfolding scale Run.scale when
scale_within = within_below _ _ _ λ code h. rw (lt-ltb code 2 h) within_same

pub item_within : Within item Items.item
unfolding item Items.item
item_within =
    within_then _ _ settings_within λ _.
    within_then _ _ shape_within λ _.
    within_then _ _ path_within λ _.
    within_then _ _ within_same λ _.
    within_then _ _ within_same λ _.
    within_then _ _ within_same λ _.
    within_then _ _ within_same λ _.
    within_then _ _ within_same λ _.
    within_then _ _ scale_within λ _.
    within_same
