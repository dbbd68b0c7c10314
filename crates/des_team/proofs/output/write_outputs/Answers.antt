use Rattle.std.proofs.Common.{◌≡◌, ◌<◌, [], ap, arith, length}
use Rattle.std.specs.BinaryHeap.{heap_items}
use Rattle.des_team.proofs.Heads.{fewer_with_next, fewer_without_next, first_of_heads, no_items, part_within, place_within}
use Rattle.des_team.proofs.Keys.{can_merge}
use Rattle.des_team.proofs.Runs.{put_nothing, run_front, taken_at, taken_ends, taken_inside, taken_part, taken_starts, with_next, without_next, written_front, written_whole}
use Rattle.des_team.specs.declared.output.Mark.{Mark}
use Rattle.des_team.proofs.output.write_outputs.Goals as goal

-- what a place past the marks would give
abbrev no_mark : Mark
no_mark = record { key = record { time = 0; origin = 0; number = 0 }; end = 0 }

pub loop-head-init : goal.loop-head-init
loop-head-init g c =
    let q = c.requires.texts in
    record {
      heap = c.in_ok-heads.ensures.ordered;
      sound = c.requires.sound;
      writing = λ lists are. record {
        heads = c.in_ok-heads.ensures.heads lists are;
        put = put_nothing lists _ (heap_items c.in_ok-heads.heads) (can_merge lists q.lists c.args.outputs.now are q.texts q.merge)
            (c.in_ok-heads.ensures.same lists are);
      };
    }

pub offset_bounds-outputs-head : goal.offset_bounds-outputs-head
offset_bounds-outputs-head g c =
    let q = c.requires.texts in
    let h = c.in-Some.head in
    let at_head = first_of_heads q.lists _ _ h c.in-Some.ensures.permutation (c.loop-head.invariant.writing q.lists q.texts).heads in
    let lt : h.part < length c.args.outputs.now = omega (arith, part_within q.lists h.part h.place at_head.inside, q.texts.long) in
    omega arith

pub bounds-outputs-head : goal.bounds-outputs-head
bounds-outputs-head g c =
    let q = c.requires.texts in
    let h = c.in-Some.head in
    let at_head = first_of_heads q.lists _ _ h c.in-Some.ensures.permutation (c.loop-head.invariant.writing q.lists q.texts).heads in
    omega (arith, part_within q.lists h.part h.place at_head.inside, q.texts.long)

pub run_end-after-requires : goal.run_end-after-requires
run_end-after-requires g c =
    let q = c.requires.texts in
    let h = c.in-Some.head in
    let at_head = first_of_heads q.lists _ _ h c.in-Some.ensures.permutation (c.loop-head.invariant.writing q.lists q.texts).heads in
    omega (
      arith,
      place_within q.lists c.args.outputs.now h c.index-outputs-head.result q.texts at_head c.index-outputs-head.is,
      ap length c.as_slice-marks.ensures.value,
    )

pub slice_bounds-write_text-count : goal.slice_bounds-write_text-count
slice_bounds-write_text-count g c =
    let i = c.loop-head.invariant in
    let out = c.in-Some.ensures.heap_order i.heap in
    let q = c.requires.texts in
    let t =
    taken_at c.first_key.result c.run_end-after.result no_mark q.texts (i.writing q.lists q.texts).heads c.in-Some.ensures.permutation
    (c.in-Some.ensures.below_top i.heap) (c.first_key.ensures.least out.0) c.index-outputs-head.is c.as_slice-marks.ensures.value
    c.run_end-after.ensures.more c.run_end-after.ensures.within c.run_end-after.ensures.below in
    taken_starts t

pub slice_bounds-write_text-start : goal.slice_bounds-write_text-start
slice_bounds-write_text-start g c =
    let i = c.loop-head.invariant in
    let out = c.in-Some.ensures.heap_order i.heap in
    let q = c.requires.texts in
    let t =
    taken_at c.first_key.result c.run_end-after.result no_mark q.texts (i.writing q.lists q.texts).heads c.in-Some.ensures.permutation
    (c.in-Some.ensures.below_top i.heap) (c.first_key.ensures.least out.0) c.index-outputs-head.is c.as_slice-marks.ensures.value
    c.run_end-after.ensures.more c.run_end-after.ensures.within c.run_end-after.ensures.below in
    taken_starts t

pub slice_bounds-write_text-end : goal.slice_bounds-write_text-end
slice_bounds-write_text-end g c =
    let i = c.loop-head.invariant in
    let out = c.in-Some.ensures.heap_order i.heap in
    let q = c.requires.texts in
    let t =
    taken_at c.first_key.result c.run_end-after.result no_mark q.texts (i.writing q.lists q.texts).heads c.in-Some.ensures.permutation
    (c.in-Some.ensures.below_top i.heap) (c.first_key.ensures.least out.0) c.index-outputs-head.is c.as_slice-marks.ensures.value
    c.run_end-after.ensures.more c.run_end-after.ensures.within c.run_end-after.ensures.below in
    omega (arith, taken_ends t, ap length c.as_slice-text.ensures.value)

pub returns-in_err-write_text-clause-front : goal.returns-in_err-write_text-clause-front
returns-in_err-write_text-clause-front g c = λ entries are.
    let i = c.loop-head.invariant in
    let out = c.in-Some.ensures.heap_order i.heap in
    let t =
    taken_at c.first_key.result c.run_end-after.result no_mark are.texts (i.writing are.lists are.texts).heads c.in-Some.ensures.permutation
    (c.in-Some.ensures.below_top i.heap) (c.first_key.ensures.least out.0) c.index-outputs-head.is c.as_slice-marks.ensures.value
    c.run_end-after.ensures.more c.run_end-after.ensures.within c.run_end-after.ensures.below in
    run_front t (i.writing are.lists are.texts) _ c.as_slice-text.result.now c.as_slice-text.ensures.value entries are.merged
    c.in_err-write_text.ensures.front

pub loop-head-smaller-in-Continue-branch-3 : goal.loop-head-smaller-in-Continue-branch-3
loop-head-smaller-in-Continue-branch-3 g c =
    let i = c.loop-head.invariant in
    let out = c.in-Some.ensures.heap_order i.heap in
    let q = c.requires.texts in
    let t =
    taken_at c.first_key.result c.run_end-after.result no_mark q.texts (i.writing q.lists q.texts).heads c.in-Some.ensures.permutation
    (c.in-Some.ensures.below_top i.heap) (c.first_key.ensures.least out.0) c.index-outputs-head.is c.as_slice-marks.ensures.value
    c.run_end-after.ensures.more c.run_end-after.ensures.within c.run_end-after.ensures.below in
    fewer_with_next c.args.outputs.now _ _ c.in-Some.head c.index-outputs-head.result c.in-Some.ensures.permutation
    (omega (arith, taken_part t, q.texts.long)) c.index-outputs-head.is (taken_inside t) c.as_slice-marks.result.now c.run_end-after.result _ _
    c.in-Some-head_at.next c.run_end-after.ensures.more c.as_slice-marks.ensures.value c.in-Some-head_at.ensures c.in_ok-push.ensures.permutation

pub loop-head-preserved-in-Continue-branch-3 : goal.loop-head-preserved-in-Continue-branch-3
loop-head-preserved-in-Continue-branch-3 g c =
    let i = c.loop-head.invariant in
    let out = c.in-Some.ensures.heap_order i.heap in
    record {
      heap = c.in_ok-push.ensures.heap_order out.0;
      sound = c.in_ok-write_text.ensures.writer;
      writing = λ lists are.
          let t =
          taken_at c.first_key.result c.run_end-after.result no_mark are (i.writing lists are).heads c.in-Some.ensures.permutation
          (c.in-Some.ensures.below_top i.heap) (c.first_key.ensures.least out.0) c.index-outputs-head.is c.as_slice-marks.ensures.value
          c.run_end-after.ensures.more c.run_end-after.ensures.within c.run_end-after.ensures.below in
          with_next t (i.writing lists are) _ c.as_slice-text.result.now c.as_slice-text.ensures.value c.in_ok-write_text.ensures.whole
          c.as_slice-marks.result.now _ c.in-Some-head_at.next c.as_slice-marks.ensures.value c.in-Some-head_at.ensures c.in_ok-push.ensures.permutation;
    }

pub loop-head-smaller : goal.loop-head-smaller
loop-head-smaller g c =
    let i = c.loop-head.invariant in
    let out = c.in-Some.ensures.heap_order i.heap in
    let q = c.requires.texts in
    let t =
    taken_at c.first_key.result c.run_end-after.result no_mark q.texts (i.writing q.lists q.texts).heads c.in-Some.ensures.permutation
    (c.in-Some.ensures.below_top i.heap) (c.first_key.ensures.least out.0) c.index-outputs-head.is c.as_slice-marks.ensures.value
    c.run_end-after.ensures.more c.run_end-after.ensures.within c.run_end-after.ensures.below in
    fewer_without_next c.args.outputs.now _ _ c.in-Some.head c.index-outputs-head.result c.in-Some.ensures.permutation
    (omega (arith, taken_part t, q.texts.long)) c.index-outputs-head.is (taken_inside t)

pub loop-head-preserved : goal.loop-head-preserved
loop-head-preserved g c =
    let i = c.loop-head.invariant in
    let out = c.in-Some.ensures.heap_order i.heap in
    record {
      heap = out.0;
      sound = c.in_ok-write_text.ensures.writer;
      writing = λ lists are.
          let t =
          taken_at c.first_key.result c.run_end-after.result no_mark are (i.writing lists are).heads c.in-Some.ensures.permutation
          (c.in-Some.ensures.below_top i.heap) (c.first_key.ensures.least out.0) c.index-outputs-head.is c.as_slice-marks.ensures.value
          c.run_end-after.ensures.more c.run_end-after.ensures.within c.run_end-after.ensures.below in
          without_next t (i.writing lists are) _ c.as_slice-text.result.now c.as_slice-text.ensures.value c.in_ok-write_text.ensures.whole
          c.as_slice-marks.result.now c.as_slice-marks.ensures.value c.in_default-head_at.ensures;
    }

pub returns-clause-whole : goal.returns-clause-whole
returns-clause-whole g c = λ entries are.
    let none : heap_items c.loop-head.heads ≡ [] =
    no_items (heap_items c.loop-head.heads) (omega (arith, c.in_default.ensures.none, c.loop-head.heads.data.ok.0)) in
    written_whole are.lists _ _ (heap_items c.loop-head.heads) none entries are.merged (c.loop-head.invariant.writing are.lists are.texts)

pub returns-clause-front : goal.returns-clause-front
returns-clause-front g c = λ entries are.
    written_front are.lists _ _ (heap_items c.loop-head.heads) entries are.merged (c.loop-head.invariant.writing are.lists are.texts)
