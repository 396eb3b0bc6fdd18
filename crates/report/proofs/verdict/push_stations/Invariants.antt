-- The lines of the stations so far are added.
use Rattle.std.proofs.Common.{take}
use Rattle.book.specs.Tables.{names_in}
use Rattle.report.specs.Texts.{Extends}
use Rattle.report.specs.Verdicts.{station_lines}
use Rattle.report.proofs.verdict.push_stations.Given as goal

abbrev pub invariant-loop-station : goal.invariant-loop-station
invariant-loop-station l = Extends l.initial.text (station_lines l.mark (names_in l.book l.names) (take l.station-index l.stations)) l.text
