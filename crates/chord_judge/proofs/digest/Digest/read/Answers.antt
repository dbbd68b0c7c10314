use Rattle.std.proofs.Common.{[], ◌∷◌}
use Rattle.std.specs.List.{filter}
use Rattle.chord_judge.specs.Kept.{is_kept}
use Rattle.chord_judge.proofs.Digesting.{adds_both, adds_line}
use Rattle.chord_judge.proofs.Streams.{on_ok}
use Rattle.chord_judge.proofs.digest.Digest.read.Goals as goal

pub returns-in_default-clause-adds : goal.returns-in_default-clause-adds
returns-in_default-clause-adds c = on_ok _ _ c.keep.result (λ added. adds_line c.args.line.now _ _ c.requires added) c.keep.ensures.text

pub returns-in-Stops-clause-adds : goal.returns-in-Stops-clause-adds
returns-in-Stops-clause-adds c =
    on_ok _ _ c.keep-in-Stops.result (λ added. adds_both [] (filter is_kept (c.args.line.now ∷ [])) _ _ _ c.in_ok-pass_edges.ensures.adds (adds_line c.args.line.now _ _ c.requires added))
    c.keep-in-Stops.ensures.text

pub returns-in_ok-keep_stabilization-in-TimesOut-clause-adds :
    goal.returns-in_ok-keep_stabilization-in-TimesOut-clause-adds
returns-in_ok-keep_stabilization-in-TimesOut-clause-adds c =
    let before = adds_both [] [] _ _ _ c.in_ok-pass_edges.ensures.adds c.in_ok-keep_stabilization-in-TimesOut.ensures.adds in
    on_ok _ _ c.keep-in-TimesOut.result (λ added. adds_both [] (filter is_kept (c.args.line.now ∷ [])) _ _ _ before (adds_line c.args.line.now _ _ c.requires added))
    c.keep-in-TimesOut.ensures.text

pub returns-in-Keeps-clause-adds : goal.returns-in-Keeps-clause-adds
returns-in-Keeps-clause-adds c =
    on_ok _ _ c.keep-in-Keeps.result (λ added. adds_both [] (filter is_kept (c.args.line.now ∷ [])) _ _ _ c.in_ok-pass_edges.ensures.adds (adds_line c.args.line.now _ _ c.requires added))
    c.keep-in-Keeps.ensures.text
