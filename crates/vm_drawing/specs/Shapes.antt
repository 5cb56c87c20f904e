-- What a picture is made of, and its text as an SVG (Scalable Vector Graphics 1.1). Lengths are pixels, from the upper left.
use Rattle.std.specs.Prelude.{ℕ, ◌+◌, ◌/◌, ◌%◌, ◌==◌, List, [], ◌∷◌, ◌++◌, Option, codes, if◌then◌else◌, nat_lt}
use Rattle.std.specs.Fmt.{decimal}
use Rattle.std.specs.List.{flat_map}
use Rattle.vm_drawing.specs.declared.area.Area.{Area}
use Rattle.vm_drawing.specs.declared.spread.Spread.{Spread}
use Rattle.vm_drawing.specs.declared.texts.Style.{Style}
use Rattle.vm_drawing.specs.declared.texts.Style.TheVariants.{Heading, Plain, Title, End, Middle}
use Rattle.vm_drawing.specs.Bands.{outline_text}
use Rattle.vm_drawing.specs.Curves.{pair, path_text}
use Rattle.vm_drawing.specs.Drawing.{Curve}

pub data Shape : Type 0 where
  -- the shapes up to the next `Close` are of a chart with this title
  Open : List ℕ → Shape
  Close : Shape
  -- words so far right, and so far down
  Words : Style → (x y : ℕ) → List ℕ → Shape
  -- words on the left, upwards
  Upright : (y : ℕ) → List ℕ → Shape
  -- a line across a chart
  Level : (y : ℕ) → Shape
  -- a short line below a chart
  Tick : (x y : ℕ) → Shape
  -- the band behind a curve
  Band : Area → Curve → List (Option Spread) → Shape
  Path : Area → Curve → Shape
  -- the number of a curve in a circle
  Mark : (x y number : ℕ) → Shape
  -- an entry of a legend: a piece of a curve with its mark, and the name
  Entry : (x y number : ℕ) → (name : List ℕ) → Shape

-- ---- characters and attributes

-- A byte that has a meaning in XML is written as an entity. A control character, which XML has not, is written as a space.
abbrev pub escaped_byte : ℕ → List ℕ
escaped_byte byte =
    if byte == 60 then codes "&lt;" else (if byte == 62 then codes "&gt;" else (if byte == 38 then codes "&amp;"
    else (if byte == 34 then codes "&quot;" else (if nat_lt byte 32 then codes " " else byte ∷ []))))

abbrev pub escaped : List ℕ → List ℕ
escaped words = flat_map escaped_byte words

unfoldable pub attribute : List ℕ → List ℕ → List ℕ
attribute name value = codes " " ++ (name ++ (codes "=\"" ++ (value ++ codes "\"")))

-- ---- groups

unfoldable pub open_text : List ℕ → List ℕ
open_text title = codes "<g><title>" ++ (escaped title ++ codes "</title>\n")

-- ---- words

abbrev pub class_of : Style → List ℕ
class_of Heading = codes "heading"
class_of Plain = codes "plain"
class_of Title = codes "title"
class_of End = codes "end"
class_of Middle = codes "middle"

unfoldable pub words_text : Style → ℕ → ℕ → List ℕ → List ℕ
words_text style x y words =
    codes "<text" ++ (attribute (codes "class") (class_of style) ++ (attribute (codes "x") (decimal x)
    ++ (attribute (codes "y") (decimal y) ++ (codes ">" ++ (escaped words ++ codes "</text>\n")))))

unfoldable pub upright_text : ℕ → List ℕ → List ℕ
upright_text y words =
    codes "<text class=\"middle\" transform=\"translate(28," ++ (decimal y ++ (codes ") rotate(-90)\">"
    ++ (escaped words ++ codes "</text>\n")))

-- ---- lines

unfoldable pub level_line : ℕ → List ℕ
level_line y = codes "<path class=\"grid\" d=\"M90," ++ (decimal y ++ codes "H970\"/>\n")

unfoldable pub tick_text : ℕ → ℕ → List ℕ
tick_text x y = codes "<path class=\"tick\" d=\"M" ++ (pair x y ++ codes "v6\"/>\n")

-- ---- curves

-- the dashes of a curve, by its number: eight patterns in turn
unfoldable pub dashes : ℕ → List ℕ
dashes number =
    if number % 8 == 0 then codes "none" else (if number % 8 == 1 then codes "9 4" else (if number % 8 == 2 then codes "2 3"
    else (if number % 8 == 3 then codes "14 4 2 4" else (if number % 8 == 4 then codes "5 3 1 3 1 3"
    else (if number % 8 == 5 then codes "20 6" else (if number % 8 == 6 then codes "1 5" else codes "8 3 8 3 2 3"))))))

-- The palette of Okabe and Ito, which people with colour blindness tell apart too; its yellow is darker, for white paper.
unfoldable pub hue : ℕ → List ℕ
hue number =
    if number == 0 then codes "#000000" else (if number == 1 then codes "#E69F00" else (if number == 2 then codes "#56B4E9"
    else (if number == 3 then codes "#009E73" else (if number == 4 then codes "#B3A000"
    else (if number == 5 then codes "#0072B2" else (if number == 6 then codes "#D55E00" else codes "#CC79A7"))))))

-- Of 64 curves in a row no two have both dashes and colour alike.
abbrev pub colour : ℕ → List ℕ
colour number = hue ((number + number / 8) % 8)

unfoldable pub stroke_text : ℕ → List ℕ
stroke_text number =
    attribute (codes "stroke") (colour number) ++ attribute (codes "stroke-dasharray") (dashes number)

unfoldable pub curve_text : Area → Curve → List ℕ
curve_text area curve =
    codes "<path class=\"curve\" transform=\"translate(90," ++ (decimal area.base ++ (codes ") scale(1,-1)\""
    ++ (stroke_text curve.number ++ (codes " d=\"" ++ (path_text area curve ++ (codes "\"><title>"
    ++ (escaped curve.name ++ codes "</title></path>\n")))))))

-- a band has the colour of its curve, a fifth as strong
unfoldable pub band_text : Area → Curve → List (Option Spread) → List ℕ
band_text area curve spreads =
    codes "<path class=\"band\" transform=\"translate(90," ++ (decimal area.base ++ (codes ") scale(1,-1)\""
    ++ (attribute (codes "fill") (colour curve.number) ++ (codes " fill-opacity=\"0.2\" d=\"" ++ (outline_text area curve spreads
    ++ (codes "\"><title>" ++ (escaped curve.name ++ codes "</title></path>\n")))))))

unfoldable pub circle_text : ℕ → ℕ → ℕ → List ℕ
circle_text x y number =
    codes "<circle class=\"mark\"" ++ (attribute (codes "stroke") (colour number) ++ (attribute (codes "cx") (decimal x)
    ++ (attribute (codes "cy") (decimal y) ++ codes " r=\"8\"/>")))

-- the number of a curve is shown from 1
unfoldable pub number_text : ℕ → ℕ → ℕ → List ℕ
number_text x y number =
    codes "<text class=\"number\"" ++ (attribute (codes "x") (decimal x) ++ (attribute (codes "y") (decimal y)
    ++ (codes " dy=\"4\">" ++ (decimal (number + 1) ++ codes "</text>\n"))))

abbrev pub mark_text : ℕ → ℕ → ℕ → List ℕ
mark_text x y number = circle_text x y number ++ number_text x y number

unfoldable pub sample_text : ℕ → List ℕ
sample_text number = codes "<path class=\"sample\"" ++ (stroke_text number ++ (codes " d=\"M0,0H60\"/>" ++ mark_text 30 0 number))

unfoldable pub entry_text : ℕ → ℕ → ℕ → List ℕ → List ℕ
entry_text x y number name =
    codes "<g transform=\"translate(" ++ (pair x y ++ (codes ")\">" ++ (sample_text number
    ++ (codes "<text x=\"68\" y=\"4\">" ++ (escaped name ++ codes "</text></g>\n")))))

-- ---- the whole

abbrev pub shape_text : Shape → List ℕ
shape_text (Open title) = open_text title
shape_text Close = codes "</g>\n"
shape_text (Words style x y words) = words_text style x y words
shape_text (Upright y words) = upright_text y words
shape_text (Level y) = level_line y
shape_text (Tick x y) = tick_text x y
shape_text (Band area curve spreads) = band_text area curve spreads
shape_text (Path area curve) = curve_text area curve
shape_text (Mark x y number) = mark_text x y number
shape_text (Entry x y number name) = entry_text x y number name

-- the shapes in order
abbrev pub shapes_text : List Shape → List ℕ
shapes_text shapes = flat_map shape_text shapes

-- how lines and texts look, by their classes
unfoldable pub styles_text : List ℕ
styles_text =
    codes ".curve,.sample{fill:none;stroke-width:2}.grid{stroke:#999;stroke-width:.5}.tick{stroke:#000}"
    ++ (codes ".mark{fill:#fff}.end{text-anchor:end}.middle{text-anchor:middle}.heading{font-size:20px}"
    ++ codes ".title{font-size:16px;font-weight:bold}.number{font-size:10px;text-anchor:middle}")

-- what stands before the shapes of a picture of a height
unfoldable pub head_text : (title : List ℕ) → (height : ℕ) → List ℕ
head_text title height =
    codes "<svg xmlns=\"http://www.w3.org/2000/svg\" role=\"img\" width=\"1010\"" ++ (attribute (codes "height") (decimal height)
    ++ (codes " viewBox=\"0 0 1010 " ++ (decimal height ++ (codes "\" font-family=\"sans-serif\" font-size=\"13\">\n<title>"
    ++ (escaped title ++ (codes "</title>\n<style>" ++ (styles_text
    ++ codes "</style>\n<rect width=\"100%\" height=\"100%\" fill=\"#fff\"/>\n")))))))

-- what stands before, the shapes, and the end
abbrev pub document : (title : List ℕ) → (height : ℕ) → List Shape → List ℕ
document title height shapes = head_text title height ++ (shapes_text shapes ++ codes "</svg>\n")
