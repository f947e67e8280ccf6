use Rattle.std.proofs.Common.{◌≡◌, ◌≤◌, IsTrue, drop}
use Rattle.std.specs.List.{list_all}
use Rattle.std.specs.Char.{is_ascii_digit}
use Rattle.text_laws.specs.Numbers.{read_on, capped}
use Rattle.wkt_text.proofs.number.read_on.Given as goal

abbrev pub invariant-loop-b : goal.invariant-loop-b
invariant-loop-b l = record {
  under : l.sum ≤ l.cap;
  digits : IsTrue (list_all is_ascii_digit (drop l.b-index l.text));
  same : capped l.cap (read_on l.sum (drop l.b-index l.text)) ≡ capped l.cap (read_on l.start l.text);
}
