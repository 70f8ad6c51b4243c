-- The text of a drawing (W3C, "Scalable Vector Graphics 1.1": "Document Structure", "Basic Shapes", "Paths", "Text", "Interactivity"). Each shape is one
-- element; what a text says is the only part of it that isn't this project's own.
use Rattle.std.specs.Prelude.{ℕ, List, ◌++◌, codes, flat_map, string_bytes}
use Rattle.std.specs.Fmt.{decimal}
use Rattle.eos_picture.specs.declared.drawing.Drawing.{Drawing}
use Rattle.eos_picture.specs.declared.look.Look.{Look}
use Rattle.eos_picture.specs.declared.shape.Line.{Line}
use Rattle.eos_picture.specs.declared.shape.Point.{Point}
use Rattle.eos_picture.specs.declared.shape.Shape.{Shape}
use Rattle.eos_picture.specs.declared.shape.Shape.TheVariants as shapes
use Rattle.eos_picture.specs.declared.shape.Size.{Size}
use Rattle.eos_picture.specs.Escaping.{xml_text}
use Rattle.eos_picture.specs.Looks.{look_text}

-- two numbers, each after a label
unfoldable pub pair_text : List ℕ → ℕ → List ℕ → ℕ → List ℕ
pair_text first a second b = (first ++ decimal a) ++ (second ++ decimal b)

-- the end of an empty element
unfoldable pub end_text : List ℕ → Look → List ℕ
end_text before look = before ++ (look_text look ++ codes "/>\n")

unfoldable pub rectangle_text : Point → Size → Look → List ℕ
rectangle_text at size look =
    pair_text (codes "<rect x=\"") at.x (codes "\" y=\"") at.y
    ++ (pair_text (codes "\" width=\"") size.width (codes "\" height=\"") size.height
    ++ end_text (codes "\"") look)

unfoldable pub diamond_text : Point → Look → List ℕ
diamond_text at look = pair_text (codes "<path d=\"M") at.x (codes " ") at.y ++ end_text (codes "l7 7 -7 7 -7 -7z\"") look

unfoldable pub line_text : Line → Look → List ℕ
line_text line look =
    pair_text (codes "<line x1=\"") line.from.x (codes "\" y1=\"") line.from.y
    ++ (pair_text (codes "\" x2=\"") line.to.x (codes "\" y2=\"") line.to.y
    ++ end_text (codes "\"") look)

unfoldable pub arc_text : Line → Point → Look → List ℕ
arc_text line over look =
    pair_text (codes "<path d=\"M") line.from.x (codes " ") line.from.y
    ++ (pair_text (codes "Q") over.x (codes " ") over.y
    ++ (pair_text (codes " ") line.to.x (codes " ") line.to.y
    ++ end_text (codes "\"") look))

unfoldable pub words_text : Point → List ℕ → Look → List ℕ
words_text at text look =
    pair_text (codes "<text x=\"") at.x (codes "\" y=\"") at.y
    ++ (codes "\"" ++ (look_text look ++ (codes ">" ++ (xml_text text ++ codes "</text>\n"))))

-- a part that isn't painted, but has a description where a pointer rests on it
unfoldable pub told_text : Point → Size → List ℕ → List ℕ
told_text at size text =
    pair_text (codes "<rect x=\"") at.x (codes "\" y=\"") at.y
    ++ (pair_text (codes "\" width=\"") size.width (codes "\" height=\"") size.height
    ++ (codes "\" class=\"mark\" fill=\"none\" pointer-events=\"all\"><title>" ++ (xml_text text ++ codes "</title></rect>\n")))

abbrev pub shape_text : Shape → List ℕ
shape_text (shapes.Rectangle at size look) = rectangle_text at size look
shape_text (shapes.Diamond at look) = diamond_text at look
shape_text (shapes.Line line look) = line_text line look
shape_text (shapes.Arc line over look) = arc_text line over look
shape_text (shapes.Text at text look) = words_text at (string_bytes text) look
shape_text (shapes.Told at size text) = told_text at size (string_bytes text)

-- how a drawing begins: its size, its name, and how its texts are set
unfoldable pub head_text : Drawing → List ℕ
head_text d =
    pair_text (codes "<svg xmlns=\"http://www.w3.org/2000/svg\" width=\"") d.size.width (codes "\" height=\"") d.size.height
    ++ (pair_text (codes "\" viewBox=\"0 0 ") d.size.width (codes " ") d.size.height
    ++ (codes "\" font-family=\"monospace\" font-size=\"11\">\n<title>" ++ (xml_text (string_bytes d.title) ++ codes "</title>\n")))

-- and after it its shapes, of which a later one lies upon an earlier one
abbrev pub svg_text : Drawing → List ℕ
svg_text d = head_text d ++ (flat_map shape_text d.shapes ++ codes "</svg>\n")
