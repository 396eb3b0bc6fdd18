-- Each station's line is one of those that there is room for.
use Rattle.std.proofs.Common.{◌≡◌, ◌+◌, ◌++◌, length, get_or, take, sym, ap, ◌∙◌, subst, arith}
use Rattle.book.specs.Tables.{names_in}
use Rattle.report.specs.Texts.{Extends}
use Rattle.report.specs.Verdicts.{station_line, station_lines}
use Rattle.report.proofs.Texts.{extends_more}
use Rattle.report.proofs.StationLines.{lines_more, lines_within, named_at}
use Rattle.report.proofs.verdict.push_stations.Goals as goal

pub push_station-requires : goal.push_station-requires
push_station-requires c =
    let i = c.loop-station.station-index in
    let h = c.in-Some.ensures in
    let is = h.1 ∙ sym (named_at c.args.book.now c.args.names.now (get_or c.args.stations.now i 0) h.0.known) in
    omega (
      arith,
      ap (λ name. length (station_line c.args.mark.now name)) is,
      lines_within c.args.mark.now (names_in c.args.book.now c.args.names.now) c.args.stations.now i (omega arith),
    )

pub loop-station-preserved : goal.loop-station-preserved
loop-station-preserved c =
    let i = c.loop-station.station-index in
    let mark = c.args.mark.now in
    let names = names_in c.args.book.now c.args.names.now in
    let stations = c.args.stations.now in
    let h = c.in-Some.ensures in
    let is = h.1 ∙ sym (named_at c.args.book.now c.args.names.now (get_or stations i 0) h.0.known) in
    let line : station_lines mark names (take i stations) ++ station_line mark c.in-Some.name.now ≡ station_lines mark names (take (i + 1) stations) =
    ap (λ name. station_lines mark names (take i stations) ++ station_line mark name) is ∙ sym (lines_more mark names stations i (omega arith)) in
    subst (λ bytes. Extends c.args.text.now bytes c.push_station.new.text) line (extends_more (omega arith) c.loop-station.invariant c.push_station.ensures)
