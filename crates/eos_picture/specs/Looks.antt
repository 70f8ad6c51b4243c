-- The attributes by which a shape looks as it does. The colours are this project's own.
use Rattle.std.specs.Prelude.{ℕ, List, codes}
use Rattle.eos_picture.specs.declared.look.Look.{Look}
use Rattle.eos_picture.specs.declared.look.Look.TheVariants as looks

unfoldable pub look_text : Look → List ℕ
look_text looks.Page = codes " class=\"page\" fill=\"#ffffff\""
look_text looks.Column = codes " class=\"column\" fill=\"#f4f4f4\""
look_text looks.Row = codes " class=\"row\" stroke=\"#c8c8c8\""
look_text looks.Committed = codes " class=\"committed\" fill=\"#0072b2\" stroke=\"#003f63\""
look_text looks.Aborted = codes " class=\"aborted\" fill=\"#d4d4d4\" stroke=\"#8c8c8c\""
look_text looks.Open = codes " class=\"open\" fill=\"#ffffff\" stroke=\"#003f63\""
look_text looks.CommitMarker = codes " class=\"commit-marker\" fill=\"#0072b2\" stroke=\"#003f63\""
look_text looks.AbortMarker = codes " class=\"abort-marker\" fill=\"#ffffff\" stroke=\"#6e6e6e\""
look_text looks.Missing = codes " class=\"missing\" fill=\"#ffffff\" stroke=\"#d00000\" stroke-width=\"2\" stroke-dasharray=\"3 2\""
look_text looks.Passed = codes " class=\"passed\" fill=\"#e3eff7\" stroke=\"#0072b2\""
look_text looks.NotPassed = codes " class=\"not-passed\" fill=\"#f4f4f4\" stroke=\"#8c8c8c\" stroke-dasharray=\"3 3\""
look_text looks.Fault = codes " class=\"fault\" fill=\"none\" stroke=\"#d00000\" stroke-width=\"3\""
look_text looks.FaultArc = codes " class=\"fault-arc\" fill=\"none\" stroke=\"#d00000\" stroke-width=\"1.5\" stroke-dasharray=\"5 3\""
look_text looks.Title = codes " class=\"title\" font-size=\"13\" font-weight=\"bold\""
look_text looks.Heading = codes " class=\"heading\" font-weight=\"bold\""
look_text looks.Words = codes " class=\"words\""
look_text looks.LightWords = codes " class=\"words\" fill=\"#ffffff\""
look_text looks.Remark = codes " class=\"remark\" fill=\"#555555\""
look_text looks.FaultWords = codes " class=\"fault-words\" fill=\"#b00000\""
